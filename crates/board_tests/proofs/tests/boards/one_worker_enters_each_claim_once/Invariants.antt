use Rattle.board_tests.proofs.tests.boards.one_worker_enters_each_claim_once.Given as goal

abbrev pub ghosts-one_worker : goal.ghosts-one_worker
ghosts-one_worker g a = record { board = a.blank }
