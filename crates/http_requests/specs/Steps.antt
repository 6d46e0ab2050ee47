-- Steps that each may refuse a request.
use Rattle.std.specs.Prelude.{◌≡◌, Option, Some, None, Result, Ok, Err, ⊤}
use Rattle.http_requests.specs.declared.refusal.Refusal.{Refusal}
use Rattle.http_requests.specs.declared.fault.InputFault.{InputFault}
use Rattle.http_requests.specs.declared.fault.InputFault.TheVariants as fault

infixl 10 ◌>>=◌
-- what f makes of a value, unless there is a refusal
abbrev pub ◌>>=◌ : {A B : Type 0} → Result A Refusal → (A → Result B Refusal) → Result B Refusal
(Ok x) >>= f = f x
(Err why) >>= f = Err why

-- the value, or that refusal if there is none
abbrev pub or_refuse : {A : Type 0} → Refusal → Option A → Result A Refusal
or_refuse why None = Err why
or_refuse why (Some x) = Ok x

-- a call gave what is asked for, unless a read failed or memory ran out
abbrev pub Gives : {A : Type 0} → Result A InputFault → Result A Refusal → Type 0
Gives (Ok x) wanted = wanted ≡ Ok x
Gives (Err (fault.Refused why)) wanted = wanted ≡ Err why
Gives (Err fault.Read) wanted = ⊤
Gives (Err fault.Memory) wanted = ⊤

-- P of the refusal, where a call refuses
abbrev pub IfRefused : {A : Type 0} → Result A InputFault → (Refusal → Type 0) → Type 0
IfRefused (Ok x) P = ⊤
IfRefused (Err (fault.Refused why)) P = P why
IfRefused (Err fault.Read) P = ⊤
IfRefused (Err fault.Memory) P = ⊤

-- where a call fails, a read failed or memory ran out
abbrev pub RefusesNothing : {A : Type 0} → Result A InputFault → Type 0
RefusesNothing result = IfRefused result (λ why. ⊥)
