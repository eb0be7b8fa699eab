-- A file that is begun and appended to line by line: its rows' lines, and its head line.
use Rattle.std.proofs.Common.{◌≡◌, ◌<◌, ◌≤◌, ◌+◌, ◌-◌, ◌*◌, zero, suc, arith, subst, ℕ, List, [], ◌++◌, take, drop, Option, sym, ap, ap₂, ◌∙◌, SFits, w64, to_z, of_z, to_z-of_z}
use Rattle.std.specs.Prelude.{ℤ, pos, ◌∷◌}
use Rattle.std.specs.Option.{option_map}
use Rattle.mat_files.specs.Texts.{head_of, line_of}
use Rattle.mat_files.specs.Printed.{lines_of, text_of}
use Rattle.mat_files.specs.Cells.{Matrix}
use Rattle.outside.specs.Files.{Files, begun, appended, MayAppend, written, MayWrite}
use Rattle.outside.specs.Inside.Writing.{IsPartWritten}
use Rattle.outside.proofs.Writing.{part_begun, part_more, part_whole, part_refused}

-- ---- the lines of the rows
pub row_fits : (rows i n len : ℕ) → i < rows → len ≡ (rows - i) * n → n ≤ len
row_fits rows i n len h e = go (rows - i) (omega arith) e
  where
    go : (k : ℕ) → 0 < k → len ≡ k * n → n ≤ len
    go zero l f = absurd (omega arith)
    go (suc k) l f = omega arith

pub rest_fits : (rows i n len more : ℕ) → i < rows → len ≡ (rows - i) * n → more + n ≡ len → more ≡ (rows - (i + 1)) * n
rest_fits rows i n len more h e f = go (rows - i) (rows - (i + 1)) (omega arith) e
  where
    go : (k j : ℕ) → k ≡ suc j → len ≡ k * n → more ≡ j * n
    go k j g e = let u : len ≡ suc j * n = e ∙ ap (λ m. m * n) g in omega arith

line_by_line : (rows i n : ℕ) (cells row others : List ℤ) → i < rows → row ≡ take n cells → others ≡ drop n cells → lines_of (rows - i) n cells ≡ line_of row ++ lines_of (rows - (i + 1)) n others
line_by_line rows i n cells row others h front back =
    let e : rows - i ≡ suc (rows - (i + 1)) = omega arith in
    ap (λ k. lines_of k n cells) e
    ∙ ap (λ r. line_of r ++ lines_of (rows - (i + 1)) n (drop n cells)) (sym front)
    ∙ ap (λ r. line_of row ++ lines_of (rows - (i + 1)) n r) (sym back)

module _ (name text : List ℕ) (rows i n : ℕ) (cells : List ℤ) (before mid new : Option Files) where
  pub one_line_more : (row others : List ℤ) → i < rows → row ≡ take n cells → others ≡ drop n cells → new ≡ option_map (appended name (line_of row)) mid → IsPartWritten name text (lines_of (rows - i) n cells) before mid → IsPartWritten name text (lines_of (rows - (i + 1)) n others) before new
  one_line_more row others h front back more part =
      part_more name text (line_of row) (lines_of (rows - (i + 1)) n others) before mid new (subst (λ rest. IsPartWritten name text rest before mid) (line_by_line rows i n cells row others h front back) part) more

  pub one_line_refused : (row others : List ℤ) → i < rows → row ≡ take n cells → others ≡ drop n cells → MayAppend name (line_of row) mid new → IsPartWritten name text (lines_of (rows - i) n cells) before mid → MayWrite name text before new
  one_line_refused row others h front back more part =
      part_refused name text (line_of row) (lines_of (rows - (i + 1)) n others) before mid new (subst (λ rest. IsPartWritten name text rest before mid) (line_by_line rows i n cells row others h front back) part) more

  pub no_line_more : rows ≤ i → IsPartWritten name text (lines_of (rows - i) n cells) before new → new ≡ option_map (written name text) before
  no_line_more h part =
      let e : rows - i ≡ 0 = omega arith in
      part_whole name text before new (subst (λ rest. IsPartWritten name text rest before new) (ap (λ k. lines_of k n cells) e) part)

-- ---- the head line
-- the two counts as numbers of 64 bits with a sign
pub head_line : (rows cols : ℕ) (x y : ℤ) → x ≡ pos rows → y ≡ pos cols → SFits w64 x → SFits w64 y → line_of (to_z w64 (of_z w64 x) ∷ to_z w64 (of_z w64 y) ∷ []) ≡ head_of rows cols
head_line rows cols x y h k f g = ap₂ (λ a b. line_of (a ∷ b ∷ [])) (to_z-of_z f ∙ h) (to_z-of_z g ∙ k)

module _ (name head : List ℕ) (m : Matrix) (old mid new : Option Files) (begins : mid ≡ option_map (begun name) old) (is : head ≡ head_of m.rows m.cols) where
  head_to_come : IsPartWritten name (text_of m) (head ++ lines_of m.rows m.cols m.cells) old mid
  head_to_come = subst (λ h. IsPartWritten name (text_of m) (h ++ lines_of m.rows m.cols m.cells) old mid) (sym is) (part_begun name (text_of m) old mid begins)

  pub head_written : new ≡ option_map (appended name head) mid → IsPartWritten name (text_of m) (lines_of m.rows m.cols m.cells) old new
  head_written more = part_more name (text_of m) head (lines_of m.rows m.cols m.cells) old mid new head_to_come more

  pub head_refused : MayAppend name head mid new → MayWrite name (text_of m) old new
  head_refused more = part_refused name (text_of m) head (lines_of m.rows m.cols m.cells) old mid new head_to_come more
