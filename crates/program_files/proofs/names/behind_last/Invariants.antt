use Rattle.std.proofs.Common.{◌≡◌, ◌≢◌, ◌<◌, ◌≤◌, ◌-◌, ℕ, get_or}
use Rattle.program_files.proofs.names.behind_last.Given as goal

-- none from the start on is the byte, and the one before it is
abbrev pub invariant-loop-at : goal.invariant-loop-at
invariant-loop-at l = record {
  within : l.start ≤ l.at;
  behind : (k : ℕ) → l.start ≤ k → k < l.at → get_or l.text k 0 ≢ l.byte;
  before : 0 < l.start → get_or l.text (l.start - 1) 0 ≡ l.byte;
}
