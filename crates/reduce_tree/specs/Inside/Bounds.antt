-- What a search asks of a row before it is compared, and what neighbours have in common.
use Rattle.std.specs.Prelude.{◌≡◌, ◌<◌, ◌≤◌, bit_and}
use Rattle.reduce_tree.specs.declared.bounds.Bounds.{Bounds}
use Rattle.reduce_tree.specs.declared.bounds.Word.{Word}
use Rattle.reduce_tree.specs.declared.tree.Filed.{Filed}
use Rattle.reduce_tree.specs.Bits.{IsPartOf}

-- a row of which the word is true may be one that is looked for
pub record Admits (bounds : Bounds) (word : Word) : Type 0 where
  pub bits : bit_and word.bits bounds.outside ≡ 0
  pub size : word.size ≤ bounds.size
  pub place : word.place < bounds.end

abbrev pub word_of : Filed → Word
word_of f = record { bits = f.bits; size = f.size; place = f.place }

-- the word is true of a filed row: its bits are part of the row's, and no number is greater
pub record Covers (word : Word) (f : Filed) : Type 0 where
  pub bits : IsPartOf word.bits f.bits
  pub size : word.size ≤ f.size
  pub place : word.place ≤ f.place
