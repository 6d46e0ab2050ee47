-- A call of the desk that ran out of memory, whose fault is handed on.
use Rattle.std.proofs.Common.{List, Ok, Err, Result, subst, sym, ◌≡◌}
use Rattle.std.specs.Result.{IsErrAnd}
use Rattle.onix_records.specs.declared.faults.StoreFault.{StoreFault}
use Rattle.onix_records.specs.declared.faults.StoreFault.TheVariants.{Memory}
use Rattle.series_rules.specs.Views.{Asks, DeskKind, View}
use Rattle.series_rules.specs.declared.requests.Request.{Request}

pub asks_memory : {A : Type 0} {k : DeskKind} {r : Request} {answer : List Request → A} {old new : View k} (result : Result A StoreFault) → IsErrAnd result (λ f. f ≡ Memory) → Asks r answer old new (Err Memory) → Asks r answer old new result
asks_memory (Ok a) is asks = absurd is
asks_memory {A} {k} {r} {answer} {old} {new} (Err f) is asks = subst (λ (x : StoreFault). Asks {A = A} r answer old new (Err x)) (sym is) asks
