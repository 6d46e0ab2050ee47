-- How the command `gaps` ends.
use Rattle.std.proofs.Common.{◌≡◌, ◌∷◌, ◌∙◌, ℕ, Bool, List, [], Option, Some, None, Ok, Err, inl, inr, ap}
use Rattle.std.specs.Prelude.{if◌then◌else◌}
use Rattle.series_rules.specs.Steps.{Step}
use Rattle.series_rules.specs.declared.requests.Request.TheVariants.{AskGaps}
use Rattle.desk_batch.specs.declared.batch.RequestFault.{RequestFault}
use Rattle.program_commands.proofs.TalkEnds.{request_ended, request_stopped, requests_end}
use Rattle.program_commands.specs.CommandEnds.{GapsEnds}
use Rattle.program_commands.specs.Unknown.{GapsGive}

module _ (asked : List Step → Type 0) (written : List ℕ → Type 0) where
  pub question_ended : (name : Option (List ℕ)) (b : Bool) (status : ℕ) → status ≡ (if b then 1 else 0) → GapsGive asked written name (Ok b) → GapsEnds asked written name status
  question_ended (Some series) b status is talks = requests_end asked written (AskGaps series ∷ []) status (request_ended asked written (AskGaps series ∷ []) b status is talks)
  question_ended None b status is (unasked, (refused, text)) = (unasked, inl (is ∙ ap (λ c. if c then 1 else 0) refused, text))

  pub question_stopped : (name : Option (List ℕ)) (f : RequestFault) (status : ℕ) → status ≡ 3 → GapsGive asked written name (Err f) → GapsEnds asked written name status
  question_stopped (Some series) f status three talks = requests_end asked written (AskGaps series ∷ []) status (request_stopped asked written (AskGaps series ∷ []) f status three talks)
  question_stopped None f status three (unasked, front) = (unasked, inr (three, front))
