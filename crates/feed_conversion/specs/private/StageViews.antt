-- The state of a conversion, without where it lies in memory.
use Rattle.feed_conversion.specs.declared.options.Options.{Options as Lent}
use Rattle.feed_conversion.specs.declared.packing.OpenParts.{OpenParts as LentBegun}
use Rattle.feed_conversion.specs.declared.packing.Stage.{Stage as LentStage}
use Rattle.feed_conversion.specs.declared.packing.Stage.TheVariants as stage
use Rattle.feed_conversion.specs.private.Stages.{OpenParts, Stage, State, unbegun, refused, within}
use Rattle.feed_conversion.specs.Views.{options_view}

abbrev pub begun_view : LentBegun → OpenParts
begun_view b = record {
  front = b.front;
  back = b.back;
  number = b.number;
  opening = b.opening;
  full = b.full;
  count = b.count;
  text = b.text.items;
  beyond = b.beyond;
  tally = b.tally;
}

abbrev pub stage_view : LentStage → Stage
stage_view stage.Unbegun = unbegun
stage_view (stage.Refused refusal) = refused refusal
stage_view (stage.Within b) = within (begun_view b)

abbrev pub state : {P : Type 0} → Lent → P → LentStage → State P
state options parts stage =
    record {
      options = options_view options;
      parts = parts;
      stage = stage_view stage;
    }
