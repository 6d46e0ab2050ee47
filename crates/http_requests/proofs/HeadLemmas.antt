-- Lemmas on heads within the limit.
use Rattle.std.proofs.Common.{◌≡◌, ℕ, ◌+◌, ◌*◌, ◌≤◌, List, [], ◌∷◌, ◌++◌, length, take, drop, sym, ap, subst, ◌∙◌, arith, All, append-nil, length-append, take-append-drop}
use Rattle.std.specs.List.{flat_map}
use Rattle.std.proofs.lemmas.List.{take-append-le}
use Rattle.std.proofs.Math.Seq.{take-append_seam}
use Rattle.std.proofs.lemmas.List.Elements.{All-head, All-tail}
use Rattle.httparse.specs.Grammar.{RequestHead, HasNoRequest, print_request, print_end, LineEnd, crlf, lf, Field, IsField, print_field}
use Rattle.httparse.specs.Spans.{RequestOverflows}
use Rattle.httparse.proofs.GrammarLemmas.{print_request-append}
use Rattle.http_requests.specs.Head.{HasNoHead, IsNeverHead, head_limit}

end_long : (end : LineEnd) → 1 ≤ length (print_end end)
end_long crlf = omega arith
end_long lf = omega arith

field_long : (f : Field) → IsField f → 3 ≤ length (print_field f)
field_long f is = simp length-append (omega (arith, end_long f.end, is.name.0))

pub fields_long : (fields : List Field) → All IsField fields → 3 * length fields ≤ length (flat_map print_field fields)
fields_long [] all = omega arith
fields_long (f ∷ fields) all =
    let here : 3 ≤ length (print_field f) = field_long f (All-head IsField f fields all) in
    let rest = fields_long fields (All-tail IsField f fields all) in
    let parts : length (print_field f ++ flat_map print_field fields) ≡ length (print_field f) + length (flat_map print_field fields) =
    length-append (print_field f) (flat_map print_field fields) in
    omega arith

-- a field takes three bytes at least, and a head has more
pub head_long : (h : RequestHead) → All IsField h.fields → 3 * length h.fields + 1 ≤ length (print_request h)
head_long h all =
    let fields = fields_long h.fields all in
    omega (arith, simp length-append at (ap length (print_request-append h [])))

-- what overflows room for so many fields has no head within the limit
pub never_head : (bytes : List ℕ) (room : ℕ) → 5461 ≤ room → RequestOverflows room bytes → IsNeverHead bytes
never_head bytes room enough over more h rest has =
    omega (arith, head_long h has.reads.0.fields, over more h rest has.reads, has.fits)

pub never_now : (bytes : List ℕ) → IsNeverHead bytes → HasNoHead bytes
never_now bytes never = subst HasNoHead (append-nil bytes) (never [])

pub no_head_in_nothing : HasNoHead []
no_head_in_nothing h rest has =
    omega (arith, head_long h has.reads.0.fields, simp length-append at (ap length has.reads.1))

front_within : (bytes more p rest : List ℕ) → bytes ++ more ≡ p ++ rest → length p ≤ length bytes
    → bytes ≡ p ++ drop (length p) bytes
front_within bytes more p rest e fits =
    let front : take (length p) bytes ≡ p =
    sym (take-append-le (length p) bytes more fits) ∙ ap (take (length p)) e ∙ take-append_seam p rest in
    sym (take-append-drop (length p) bytes) ∙ ap (λ l. l ++ drop (length p) bytes) front

-- where so many bytes as a head may have begin with none, further bytes do not change that
pub never_when_full : (bytes : List ℕ) → head_limit ≤ length bytes → HasNoHead bytes → IsNeverHead bytes
never_when_full bytes full none more h rest has =
    none h (drop (length (print_request h)) bytes) (record {
      reads = (has.reads.0, front_within bytes more (print_request h) rest has.reads.1 (omega (arith, has.fits)));
      fits = has.fits;
    })
