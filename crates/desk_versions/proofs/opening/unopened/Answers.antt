use Rattle.sqlite.specs.Held.{state}
use Rattle.desk_versions.proofs.FoundFiles.{still_clean}
use Rattle.desk_versions.proofs.opening.unopened.Goals as goal

pub returns-clause-clean : goal.returns-clause-clean
returns-clause-clean g c = λ clean. still_clean (state g.S.Store c.args.connection) _ c.into_store.ensures.quiet.clean clean

pub returns-clause-left : goal.returns-clause-left
returns-clause-left g c = λ up d may. g.met.S.Store.settled c.args.connection.store d up (c.into_store.ensures.quiet.outcomes d may)
