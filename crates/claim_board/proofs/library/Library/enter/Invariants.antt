use Rattle.claim_board.proofs.library.Library.enter.Given as goal

abbrev pub ghosts-enter : goal.ghosts-enter
ghosts-enter g a = record { size = a.size }
