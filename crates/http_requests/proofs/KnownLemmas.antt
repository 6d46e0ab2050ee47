-- What holds of an input that is known, if it is.
use Rattle.std.proofs.Common.{◌≡◌, refl, Option, Some, None, Result, Ok, Err}
use Rattle.std.specs.Prelude.{IfSome}
use Rattle.http_requests.specs.declared.refusal.Refusal.{Refusal}
use Rattle.http_requests.specs.declared.fault.InputFault.{InputFault}
use Rattle.http_requests.specs.declared.fault.InputFault.TheVariants as fault
use Rattle.http_requests.specs.Steps.{◌>>=◌, Gives, RefusesNothing}

pub IfSome-map : {X : Type 0} (o : Option X) (P Q : X → Type 0) → ((x : X) → P x → Q x) → IfSome o P
    → IfSome o Q
IfSome-map None P Q f h = h
IfSome-map (Some x) P Q f h = f x h

pub IfSome-all : {X : Type 0} (o : Option X) (Q : X → Type 0) → ((x : X) → Q x) → IfSome o Q
IfSome-all None Q f = tt
IfSome-all (Some x) Q f = f x

-- a fault that refuses nothing is no refusal of anything
pub fault_gives : {A : Type 0} (f : InputFault) (wanted : Result A Refusal)
    → RefusesNothing {A = A} (Err f) → Gives (Err f) wanted
fault_gives (fault.Refused why) wanted h = absurd h
fault_gives fault.Read wanted h = tt
fault_gives fault.Memory wanted h = tt

-- a step that gave a value, and then the next step
pub gives_next : {A B : Type 0} (first : Result A Refusal) (x : A) (next : A → Result B Refusal)
    (r : Result B InputFault)
    → first ≡ Ok x → Gives r (next x) → Gives r (first >>= next)
gives_next first x next r is gives = rw is gives

-- a step that failed, and no next step
pub gives_refused : {A B : Type 0} (first : Result A Refusal) (next : A → Result B Refusal)
    (f : InputFault)
    → Gives {A = A} (Err f) first → Gives {A = B} (Err f) (first >>= next)
gives_refused first next (fault.Refused why) is = rw is refl
gives_refused first next fault.Read is = tt
gives_refused first next fault.Memory is = tt
