use Rattle.board_tests.proofs.tests.waiting.a_draw_does_not_wait_for_the_library.Given as goal

abbrev pub ghosts-draws_beside : goal.ghosts-draws_beside
ghosts-draws_beside g a = record { board = a.blank }
