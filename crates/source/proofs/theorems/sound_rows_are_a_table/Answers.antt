use Rattle.source.proofs.TableRows.{sound_passes}
use Rattle.source.proofs.theorems.sound_rows_are_a_table.Goals as goal

pub returns : goal.returns
returns c = sound_passes
