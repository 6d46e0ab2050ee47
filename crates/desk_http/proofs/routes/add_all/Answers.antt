use Rattle.std.proofs.Common.{refl}
use Rattle.desk_http.specs.Table.{table}
use Rattle.desk_http.proofs.routes.add_all.Goals as goal

pub returns : goal.returns
unfolding table
returns c = λ empty. rw (c.in_ok-add-6.ensures, c.in_ok-add-5.ensures, c.in_ok-add-4.ensures, c.in_ok-add-3.ensures, c.in_ok-add-2.ensures, c.in_ok-add.ensures, empty) refl
