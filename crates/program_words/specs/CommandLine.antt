-- The command line of the program: its options, and its commands with the options and operands of
-- each.
use Prim.Native.String.{String}
use Rattle.std.specs.Prelude.{◌≡◌, ◌∷◌, ℕ, true, false, List, [], Some, codes}
use Rattle.clap.specs.Lexer.{usize_max}
use Rattle.clap.specs.Simple.{App, Shape, app_of, new_rule, new_shape}
use Rattle.clap.specs.Walk.{Rule, Text, is_empty, rule_of}
use Rattle.clap.specs.declared.builder.action.ArgAction.TheVariants.{Append, Set, SetTrue}
use Rattle.clap.specs.declared.builder.arg.Arg.{Arg}
use Rattle.clap.specs.declared.builder.command.Command.{Command}
use Rattle.clap.specs.declared.builder.command.Command.TheViews.{out-Command as fields_of}
use Rattle.clap.specs.declared.builder.value_parser.ValueParser.TheVariants.{Unsigned}

-- ---- options and operands

-- one operand, which may be left out
abbrev pub free_operand : Text → Rule
free_operand name = record (new_rule name) { action = Some Set; value_names = 1 }

-- the option `--NAME TEXT`
abbrev pub text_option : Text → Rule
text_option name = record (free_operand name) { long = Some name }

-- the option `--NAME N`, a number from `least` to `most`
abbrev pub number_option : Text → ℕ → ℕ → Rule
number_option name least most = record (text_option name) { parser = Some (Unsigned least most) }

-- the option `-X TEXT`, of that letter
abbrev pub short_option : Text → ℕ → Rule
short_option name letter = record (free_operand name) { short = Some letter }

-- the option `--NAME`, without a text
abbrev pub flag_option : Text → Rule
flag_option name = record (new_rule name) { long = Some name; action = Some SetTrue }

-- `least` operands or more
abbrev pub some_operands : Text → ℕ → Rule
some_operands name least = record (new_rule name) {
  action = Some Append;
  range = Some (record { start_inclusive = least; end_inclusive = usize_max });
  value_names = 1;
}

-- the same, which have to be there
abbrev pub needed : Rule → Rule
needed r = record r { required = true }

-- ---- the commands

-- the command of that name with these options and operands
abbrev pub command_of : String → List Rule → Shape
command_of name words = record (new_shape (codes name)) { rules = words }

-- convert [--parts P] [--number N | --number-offset K] [--sender TYPE,VALUE]
-- [--addressee TYPE,VALUE] [--supplier TYPE,VALUE] [--id-type TT] [--wrong none|few|all]
-- [--terms FILE] [-o FOLDER] [FILE..]
abbrev pub convert_command : Shape
convert_command = command_of "convert" (
    number_option (codes "parts") 1 9999
    ∷ number_option (codes "number") 1 999999999
    ∷ number_option (codes "number-offset") 0 999999998
    ∷ text_option (codes "sender")
    ∷ text_option (codes "addressee")
    ∷ text_option (codes "supplier")
    ∷ text_option (codes "id-type")
    ∷ text_option (codes "wrong")
    ∷ text_option (codes "terms")
    ∷ short_option (codes "folder") 111
    ∷ some_operands (codes "file") 0
    ∷ [])

-- serve --port N [--batches SOCKET] [--requests K]
abbrev pub serve_command : Shape
serve_command = command_of "serve" (
    needed (number_option (codes "port") 1 65535)
    ∷ text_option (codes "batches")
    ∷ number_option (codes "requests") 1 1000000
    ∷ [])

-- ---- the program

-- [--db FILE [--existing]] [--rules FILE] [--batches SOCKET]
abbrev pub program_options : List Rule
program_options =
    text_option (codes "db")
    ∷ flag_option (codes "existing")
    ∷ text_option (codes "rules")
    ∷ text_option (codes "batches")
    ∷ []

-- agreements, batch, check FILE.., convert, deliver FILE.., export, gaps [NAME], migrate,
-- rules FILE, serve, terms FILE
abbrev pub program_commands : List Shape
program_commands =
    command_of "agreements" []
    ∷ command_of "batch" []
    ∷ command_of "check" (needed (some_operands (codes "file") 1) ∷ [])
    ∷ convert_command
    ∷ command_of "deliver" (needed (some_operands (codes "file") 1) ∷ [])
    ∷ command_of "export" []
    ∷ command_of "gaps" (free_operand (codes "name") ∷ [])
    ∷ command_of "migrate" []
    ∷ command_of "rules" (needed (free_operand (codes "file")) ∷ [])
    ∷ serve_command
    ∷ command_of "terms" (needed (free_operand (codes "file")) ∷ [])
    ∷ []

-- onixdesk [OPTIONS] COMMAND
abbrev pub onixdesk : App
onixdesk = record {
  top = record (new_shape (codes "onixdesk")) {
    rules = program_options;
    is_leaf = false;
    has_version = true;
    subcommand_required = true;
  };
  subs = program_commands;
}

-- ---- what is built is that

-- the program while it has these options and commands alone
abbrev pub program_of : List Rule → List Shape → App
program_of words commands = record {
  top = record onixdesk.top { rules = words; is_leaf = is_empty commands };
  subs = commands;
}

-- the option or operand is that, of its own command alone
abbrev pub IsWord : Rule → Arg → Type 0
IsWord r a = (rule_of a ≡ r) × (a.global ≡ false)

-- the program is that, and no option is of its commands too
abbrev pub IsProgram : App → Command → Type 0
IsProgram a c = (app_of c ≡ a) × ((fields_of c).has_globals ≡ false)

-- the command is that, without commands of its own
abbrev pub IsCommand : Shape → Command → Type 0
IsCommand s c = IsProgram (record { top = s; subs = [] }) c
