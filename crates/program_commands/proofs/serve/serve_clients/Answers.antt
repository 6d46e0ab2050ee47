use Rattle.std.proofs.Common.{◌≡◌, ◌++◌, ◌∷◌, ◌∙◌, ◌⊎◌, [], inl, inr, ⊎_elim, length, length-append, arith, refl, append-nil, subst, sym}
use Rattle.std.proofs.KnownBytes.{Appends-nil, Appends-trans}
use Rattle.std.proofs.lemmas.List.Elements.{All-nil, All-push}
use Rattle.std.specs.Io.KnownBytes.{Appends}
use Rattle.series_rules.specs.Steps.{Asked}
use Rattle.program_commands.specs.Connections.{IsServed, lines_of}
use Rattle.program_commands.proofs.ConnectionLines.{cut_line, one_more_line, whole_lines}
use Rattle.program_commands.proofs.ServingLemmas.{one_more_asked, steps_of}
use Rattle.program_commands.proofs.serve.serve_clients.Goals as goal

-- with `Ok` a client was served
of_ok : {A B C : Type 0} → A ⊎ (⊥ × B × C) → A
of_ok (inl it) = it
of_ok (inr nobody) = absurd nobody.0

pub serving-init : goal.serving-init
serving-init g c = record {
  served = [];
  counted = refl;
  all = All-nil (IsServed (g.C.Clients.takes_batches c.args.clients.now));
  takes = refl;
  lines = Appends-nil (g.O.Write.contents c.args.streams.now.output);
  asked = refl;
}

pub serving-preserved : goal.serving-preserved
serving-preserved g c =
    let inv = c.serving.invariant in
    let it = of_ok c.in-Ok.ensures.served in
    let one = it.connection in
    record {
      served = inv.served ++ one ∷ [];
      counted = omega (arith, inv.counted, length-append inv.served (one ∷ []));
      takes = c.in-Ok.ensures.takes ∙ inv.takes;
      all = All-push (IsServed (g.C.Clients.takes_batches c.args.clients.now)) inv.served one inv.all (subst (λ b. IsServed b one) inv.takes it.is_served);
      lines = one_more_line _ _ _ inv.served one inv.lines it.line;
      asked = one_more_asked g.D.Desk.seen c.args.precedence.now c.args.desk.now c.serving.desk c.serve_next.new.desk inv.served one inv.asked it.were_asked;
    }

pub returns-in-Err-clause-end : goal.returns-in-Err-clause-end
returns-in-Err-clause-end g c =
    let inv = c.serving.invariant in
    let seen = g.D.Desk.seen in
    let rules = c.args.precedence.now in
    ⊎_elim
    (λ it.
    let one = it.connection in (
      inv.served ++ one ∷ [],
      (
        omega (arith, inv.counted, length-append inv.served (one ∷ [])),
        All-push (IsServed (g.C.Clients.takes_batches c.args.clients.now)) inv.served one inv.all (subst (λ b. IsServed b one) inv.takes it.is_served),
        one_more_asked seen rules c.args.desk.now c.serving.desk c.serve_next.new.desk inv.served one inv.asked it.were_asked,
      ),
      (cut_line _ _ _ inv.served one inv.lines it.line, inr c.report.ensures),
    ))
    (λ nobody. (
      inv.served,
      (
        omega (arith, inv.counted),
        inv.all,
        subst (λ d. Asked seen rules c.args.desk.now d (steps_of inv.served)) (sym nobody.1) inv.asked,
      ),
      (whole_lines _ _ inv.served (subst (Appends _ _) (append-nil (lines_of inv.served)) (Appends-trans _ _ _ _ _ inv.lines nobody.2)), inr c.report.ensures),
    ))
    c.in-Err.ensures.served

pub returns-clause-end : goal.returns-clause-end
returns-clause-end g c =
    let inv = c.serving.invariant in
    let all : length inv.served ≡ c.args.requests = omega (arith, inv.counted) in (
      inv.served,
      (omega (arith, all), inv.all, inv.asked),
      (whole_lines _ _ inv.served inv.lines, inl (refl, all, inv.lines)),
    )
