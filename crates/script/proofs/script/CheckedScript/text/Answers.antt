use Rattle.std.proofs.Common.{refl}
use Rattle.script.proofs.Whole.{is_script_lem}
use Rattle.script.proofs.script.CheckedScript.text.Goals as goal

pub returns : goal.returns
returns c = record { held = refl; language = is_script_lem c.args.self.now.text.now c.args.self.now.sound }
