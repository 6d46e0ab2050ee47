use Rattle.std.proofs.Common.{inl, inr, refl}
use Rattle.program_databases.proofs.ContentLemmas.{closed_lists, hands_on, one_of, unclosed_lists}
use Rattle.program_databases.proofs.stored_desks.files_mean_lists.Goals as goal

pub returns-clause-lists : goal.returns-clause-lists
returns-clause-lists g c =
    let held = g.O.Databases.held in
    record {
      found = λ desks name creation L. (λ is. is, λ is. is);
      closed = λ now L is. (is.0, inl is.1, is.2);
      clean = λ now. (λ is. is, λ is. is);
      blank = λ image empty. inr (empty, refl);
      handed = λ rules steps desks name creation now L leads clean are. hands_on g.O.File.Disk rules steps (held desks.databases name) creation now L leads clean are;
      one = one_of c.rows_have_one_content.ensures;
    }

pub returns-clause-crashes : goal.returns-clause-crashes
returns-clause-crashes g c = record {
  closed = λ now d left L lasts clean found are may. let alone = lasts clean in closed_lists g.O.File.Disk now d alone.0 left L alone.1 found are may;
  unclosed = λ rules steps desks name creation last d left L leads clean may both are. unclosed_lists g.O.File.Disk rules steps (g.O.Databases.held desks.databases name) creation last d left L leads clean may both are;
}

pub returns-clause-taken : goal.returns-clause-taken
returns-clause-taken g c = record {
  opened = λ desks name creation. (λ is. is, λ is. is);
  holds = λ desks name creation d. (λ is. is, λ is. is);
  kept = λ now d. (λ is. is, λ is. is);
  alone = λ now d. (λ is. is, λ is. is);
  spared = λ desks name creation left. (λ is. is, λ is. is);
  unmigrated = λ desks name creation left. (λ is. is, λ is. is);
  of_any_version = λ desks name L. (λ is. is, λ is. is);
  migrated = λ desks name creation did now. (λ is. is, λ is. is);
}
