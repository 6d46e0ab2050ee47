use Rattle.std.proofs.Common.{inl, inr, refl}
use Rattle.desk_export.proofs.AskedDesks.{asked_as}
use Rattle.program_run.proofs.listing.write_listing.Goals as goal

pub returns-in-Ok-clause-end : goal.returns-in-Ok-clause-end
returns-in-Ok-clause-end g c = asked_as c.in-Ok.ensures (λ L written. inl (refl, written.0))

pub returns-in-Err-clause-end : goal.returns-in-Err-clause-end
returns-in-Err-clause-end g c = asked_as c.in-Err.ensures (λ L written. inr (c.report_listing.ensures, written.1))
