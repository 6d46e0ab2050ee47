-- Open elements without where they lie in memory.
use Rattle.std.specs.Prelude.{List, map}
use Rattle.feed_outline.specs.declared.grower.Open.{Open}
use Rattle.feed_outline.specs.Namespaces.{scope}
use Rattle.feed_outline.specs.Views.{binding_views}
use Rattle.feed_outline.specs.private.Growing.{Open as Begun, open_at}

-- an open element, with what is declared as the texts that it is
abbrev pub open_view : Open → Begun
open_view o = open_at o.at o.waits (scope o.name.now (binding_views o.bindings.items))

abbrev pub open_views : List Open → List Begun
open_views opens = map open_view opens
