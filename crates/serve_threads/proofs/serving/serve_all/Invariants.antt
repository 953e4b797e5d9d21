use Rattle.serve_threads.proofs.serving.serve_all.Given as goal

abbrev pub ghosts-serve_over-L-Ledger : goal.ghosts-serve_over-L-Ledger
ghosts-serve_over-L-Ledger g a = record { name = a.blanks.booked.name; parts = a.blanks.booked.parts }

abbrev pub ghosts-serve_over-M-Ledger : goal.ghosts-serve_over-M-Ledger
ghosts-serve_over-M-Ledger g a = record { name = a.blanks.fulls.name; parts = a.blanks.fulls.parts }

abbrev pub ghosts-serve_over-O-Ledger : goal.ghosts-serve_over-O-Ledger
ghosts-serve_over-O-Ledger g a = record { name = a.blanks.opens.name; parts = a.blanks.opens.parts }

abbrev pub ghosts-serve_over-Q-Ledger : goal.ghosts-serve_over-Q-Ledger
ghosts-serve_over-Q-Ledger g a = record { name = a.blanks.most.name; parts = a.blanks.most.parts }
