use Rattle.desk_http.proofs.Sound.{on_ok, sound_of}
use Rattle.desk_http.proofs.texts.push_value.Goals as goal

pub returns-clause-sound : goal.returns-clause-sound
returns-clause-sound c =
    let written = c.in_ok-written.ensures in
    on_ok c.push_str.result (sound_of _ _ written.order c.requires.plain c.requires.shallow (written.reads_back c.requires.shallow))
