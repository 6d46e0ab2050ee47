use Rattle.std.proofs.Common.{sym}
use Rattle.sqlite.specs.Held.{state}
use Rattle.desk_rows.proofs.ComesTo.{stored}
use Rattle.desk_store.proofs.desk.DeskStore.leaves_its_requests.Goals as goal

pub returns : goal.returns
returns g c = λ up L keeps left may.
    let s = state g.S.Store c.args.self.now.tables.connection in
    (s.committed, sym (g.met.S.Store.settled c.args.self.now.tables.connection.store left up may), stored s.committed L (keeps up).2)
