use Rattle.board_tests.proofs.tests.boards.of_two_workers_one_finds_no_claim.Given as goal

abbrev pub ghosts-two_threads : goal.ghosts-two_threads
ghosts-two_threads g a = record { board = a.blank }
