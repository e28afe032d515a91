use Rattle.board_tests.proofs.tests.boards.two_threads_enter_a_thousand_claims_once.Given as goal

abbrev pub ghosts-two_threads : goal.ghosts-two_threads
ghosts-two_threads g a = record { board = a.blank }
