-- Writing the rows of a matrix one by one: the lines that stand and those that are left make the whole.
use Rattle.std.proofs.Common.{◌≡◌, ◌<◌, ◌+◌, ◌-◌, ◌*◌, ℕ, suc, List, ◌++◌, length, take, drop, sym, ap, ◌∙◌, arith, append_assoc}
use Rattle.std.proofs.Math.IntN.{ℤ}
use Rattle.mat_files.specs.Texts.{line_of}
use Rattle.mat_files.specs.Printed.{lines_of}

less_one : (n i : ℕ) → i < n → n - i ≡ suc (n - (i + 1))
less_one n i h = omega arith

-- one more row is written
pub lines_more : (text new : List ℕ) (row rest back : List ℤ) (n i cols : ℕ) → i < n → row ≡ take cols rest → back ≡ drop cols rest → new ≡ text ++ line_of row →
    new ++ lines_of (n - (i + 1)) cols back ≡ text ++ lines_of (n - i) cols rest
lines_more text new row rest back n i cols h front behind is =
    ap (λ t. t ++ lines_of (n - (i + 1)) cols back) (is ∙ ap (λ r. text ++ line_of r) front)
    ∙ ap (λ b. text ++ line_of (take cols rest) ++ lines_of (n - (i + 1)) cols b) behind
    ∙ append_assoc text (line_of (take cols rest)) (lines_of (n - (i + 1)) cols (drop cols rest))
    ∙ ap (λ k. text ++ lines_of k cols rest) (sym (less_one n i h))

pub suc_times : (m cols : ℕ) → suc m * cols ≡ m * cols + cols
suc_times m cols = omega arith

-- the cells that are left are those of the rows that are left
pub left_more : (rest back : List ℤ) (n i cols : ℕ) → i < n → length rest ≡ (n - i) * cols → length back + cols ≡ length rest → length back ≡ (n - (i + 1)) * cols
left_more rest back n i cols h all less =
    let e : (n - i) * cols ≡ (n - (i + 1)) * cols + cols = ap (λ k. k * cols) (less_one n i h) ∙ suc_times (n - (i + 1)) cols in
    let f : length back + cols ≡ (n - (i + 1)) * cols + cols = less ∙ all ∙ e in
    cancel (length back) ((n - (i + 1)) * cols) cols f where
      cancel : (a b c : ℕ) → a + c ≡ b + c → a ≡ b
      cancel a b c e = omega arith
