-- A source as a whole or during a period.
use Rattle.layers.specs.declared.parts.Part.{Part}
use Rattle.layers.specs.declared.parts.Part.TheVariants.{Whole, During}
use Rattle.source.specs.Meaning.{Meaning, Sound}
use Rattle.layers.specs.Windows.{windowed}
use Rattle.layers.specs.Soundness.{windowed_sound}

abbrev pub part_meaning : {X : Type 0} {g : _} → (X → Meaning) → Part X g → Meaning
part_meaning m (Whole s) = m s
part_meaning m (During w) = windowed (m w.source) w.days.first w.days.end

pub part_sound : {X : Type 0} {g : _} (m : X → Meaning) → ((s : X) → Sound (m s)) → (p : Part X g) → Sound (part_meaning m p)
part_sound m sound (Whole s) = sound s
part_sound m sound (During w) = windowed_sound (m w.source) w.days.first w.days.end (sound w.source)
