-- the two ledgers, each by the name of its blank
use Rattle.rh_jobs.proofs.started.run_beside.Given as goal

abbrev pub ghosts-run_under-Go-Ledger : goal.ghosts-run_under-Go-Ledger
ghosts-run_under-Go-Ledger g a = record { name = a.go.name; parts = a.go.parts }

abbrev pub ghosts-run_under-Off-Ledger : goal.ghosts-run_under-Off-Ledger
ghosts-run_under-Off-Ledger g a = record { name = a.off.name; parts = a.off.parts }
