-- The command line is one of which clap says exactly what it takes.
use Rattle.std.proofs.Common.{◌≡◌, true, refl}
use Rattle.clap.proofs.OnLiterals.{clap_on_literals}
use Rattle.clap.specs.Faults.{is_simple_and_free}
use Rattle.clap.specs.Simple.{is_simple}
use Rattle.program_words.specs.CommandLine.{onixdesk}

-- what is found of the program's words is said exactly
pub onixdesk_is_simple : is_simple onixdesk ≡ true
unfolding clap_on_literals
onixdesk_is_simple = refl

-- and so is which words are refused
pub onixdesk_is_free : is_simple_and_free onixdesk ≡ true
unfolding clap_on_literals
onixdesk_is_free = refl
