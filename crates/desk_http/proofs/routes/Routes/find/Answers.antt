use Rattle.std.proofs.Common.{sym, ap, ◌∙◌, arith}
use Rattle.std.specs.Prelude.{option_map}
use Rattle.desk_http.proofs.TableLemmas.{found_value}
use Rattle.desk_http.proofs.routes.Routes.find.Goals as goal

pub returns-in-Ok : goal.returns-in-Ok
returns-in-Ok c =
    sym (ap (option_map (λ e. e.value)) c.in-Ok.ensures.found)
    ∙ found_value c.args.self.now.router c.args.path.now c.args.self.now.all (λ i. omega (arith, c.type_inv.path i))

pub returns-in-Err : goal.returns-in-Err
returns-in-Err c =
    sym (ap (option_map (λ e. e.value)) c.in-Err.ensures.missing)
    ∙ found_value c.args.self.now.router c.args.path.now c.args.self.now.all (λ i. omega (arith, c.type_inv.path i))
