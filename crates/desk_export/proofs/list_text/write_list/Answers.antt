use Rattle.desk_export.proofs.AppendedTexts.{listed_appended}
use Rattle.desk_export.proofs.AskedDesks.{asked_list}
use Rattle.desk_export.proofs.list_text.write_list.Goals as goal

pub returns : goal.returns
returns g c =
    asked_list c.list_desk.result c.list_desk.ensures
    (λ L taken. listed_appended g.W.Write.contents c.args.writer.now c.list_desk.new.taker c.list_desk.result c.args.listed L taken)
