use Rattle.locked_tests.proofs.takes.first_other_locked.Given as goal

abbrev pub ghosts-first_other_behind-L-Ledger : goal.ghosts-first_other_behind-L-Ledger
ghosts-first_other_behind-L-Ledger g a = record { name = a.blanks.booked.name; parts = a.blanks.booked.parts }

abbrev pub ghosts-first_other_behind-M-Ledger : goal.ghosts-first_other_behind-M-Ledger
ghosts-first_other_behind-M-Ledger g a = record { name = a.blanks.fulls.name; parts = a.blanks.fulls.parts }

abbrev pub ghosts-first_other_behind-O-Ledger : goal.ghosts-first_other_behind-O-Ledger
ghosts-first_other_behind-O-Ledger g a = record { name = a.blanks.opens.name; parts = a.blanks.opens.parts }

abbrev pub ghosts-first_other_behind-Q-Ledger : goal.ghosts-first_other_behind-Q-Ledger
ghosts-first_other_behind-Q-Ledger g a = record { name = a.blanks.most.name; parts = a.blanks.most.parts }
