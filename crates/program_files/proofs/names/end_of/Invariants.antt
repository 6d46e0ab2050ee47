use Rattle.std.proofs.Common.{◌≡◌, ◌≢◌, ◌<◌, ◌≤◌, ◌-◌, ℕ, get_or}
use Rattle.program_files.proofs.names.end_of.Given as goal

-- all from the end on are slashes, and the one before is none
abbrev pub invariant-loop-at : goal.invariant-loop-at
invariant-loop-at l = record {
  within : l.end ≤ l.at;
  behind : (k : ℕ) → l.end ≤ k → k < l.at → get_or l.path k 0 ≡ 47;
  before : 0 < l.end → get_or l.path (l.end - 1) 0 ≢ 47;
}
