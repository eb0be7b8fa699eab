-- Lines whose texts are joined by one space, text by text, and the lines of a system by their places.
use Rattle.std.proofs.Common.{◌≡◌, ◌<◌, ◌≤◌, ◌+◌, ◌-◌, ℕ, zero, suc, List, [], ◌∷◌, ◌++◌, length, drop, get_or, refl, sym, ap, subst, ◌∙◌, append_assoc, append-nil, arith}
use Rattle.std.specs.Prelude.{ℤ, Option, None, map}
use Rattle.std.proofs.lemmas.List.{get_or-map, length-map, length-drop}
use Rattle.std.proofs.Math.Seq.{drop-cons}
use Rattle.lift_core.specs.Systems.{ToolSystem}
use Rattle.lift_core.specs.ToolSystems.{IsToolSystem, width}
use Rattle.restart_file.specs.Texts.{spaced, cap_text, row_line}

-- ---- one more text, and a space where it is not the last
spaced_step : (t : List ℕ) (ts : List (List ℕ)) (line old : List ℕ) → line ++ spaced (t ∷ ts) ≡ old → 0 < length ts → ((line ++ t) ++ 32 ∷ []) ++ spaced ts ≡ old
spaced_step t [] line old h l = absurd (omega (arith, l))
spaced_step t (u ∷ ts) line old h l = append_assoc (line ++ t) (32 ∷ []) (spaced (u ∷ ts)) ∙ append_assoc line t (32 ∷ spaced (u ∷ ts)) ∙ h

spaced_last : (t : List ℕ) (ts : List (List ℕ)) (line old : List ℕ) → line ++ spaced (t ∷ ts) ≡ old → length ts ≡ 0 → (line ++ t) ++ spaced ts ≡ old
spaced_last t [] line old h l = append-nil (line ++ t) ∙ h
spaced_last t (u ∷ ts) line old h l = absurd (omega (arith, l))

module _ (caps : List (Option ℕ)) (j : ℕ) (cap : Option ℕ) (line added new old : List ℕ)
    (inside : j < length caps) (is : cap ≡ get_or caps (j + 1 - 1) None) (more : added ≡ line ++ cap_text cap) (whole : line ++ spaced (map cap_text (drop j caps)) ≡ old) where
  rest : List (Option ℕ)
  rest = drop (suc j) caps

  here : drop j caps ≡ cap ∷ drop (suc j) caps
  here = drop-cons caps j None inside ∙ ap (λ c. c ∷ drop (suc j) caps) (sym (is ∙ ap (λ i. get_or caps i None) (omega arith)))

  left : length (map cap_text (drop (suc j) caps)) ≡ length caps - suc j
  left = length-map (drop (suc j) caps) cap_text ∙ length-drop (suc j) caps

  before : line ++ spaced (cap_text cap ∷ map cap_text (drop (suc j) caps)) ≡ old
  before = subst (λ xs. line ++ spaced (map cap_text xs) ≡ old) here whole

  next : j + 1 ≡ suc j
  next = omega arith

  pub cap_and_space : j + 1 < length caps → new ≡ added ++ 32 ∷ [] → new ++ spaced (map cap_text (drop (j + 1) caps)) ≡ old
  cap_and_space l is_new =
      subst (λ i. new ++ spaced (map cap_text (drop i caps)) ≡ old) (sym next)
      (subst (λ line. line ++ spaced (map cap_text (drop (suc j) caps)) ≡ old) (sym (is_new ∙ ap (λ a. a ++ 32 ∷ []) more))
      (spaced_step (cap_text cap) (map cap_text (drop (suc j) caps)) line old before (omega (arith, left, l))))

  pub cap_alone : length caps ≤ j + 1 → new ≡ added → new ++ spaced (map cap_text (drop (j + 1) caps)) ≡ old
  cap_alone l is_new =
      subst (λ i. new ++ spaced (map cap_text (drop i caps)) ≡ old) (sym next)
      (subst (λ line. line ++ spaced (map cap_text (drop (suc j) caps)) ≡ old) (sym (is_new ∙ more))
      (spaced_last (cap_text cap) (map cap_text (drop (suc j) caps)) line old before (omega (arith, left, l))))

pub caps_end : (caps : List (Option ℕ)) (j : ℕ) (line new old word : List ℕ) → length caps ≤ j → line ++ spaced (map cap_text (drop j caps)) ≡ old ++ word → new ≡ line ++ 10 ∷ [] → new ≡ old ++ (word ++ 10 ∷ [])
caps_end caps j line new old word l whole is =
    is ∙ ap (λ t. t ++ 10 ∷ []) (sym (append-nil line) ∙ ap (λ xs. line ++ spaced (map cap_text xs)) (sym (none caps j l)) ∙ whole) ∙ append_assoc old word (10 ∷ [])
  where
    none : (caps : List (Option ℕ)) (j : ℕ) → length caps ≤ j → drop j caps ≡ []
    none [] zero l = refl
    none [] (suc j) l = refl
    none (c ∷ caps) zero l = absurd (omega (arith, l))
    none (c ∷ caps) (suc j) l = none caps j (omega (arith, l))

-- ---- the system's rows behind its first lines
pub behind_three : (a b c : List ℕ) (xs : List (List ℕ)) (i : ℕ) → 3 ≤ i → get_or (a ∷ b ∷ c ∷ xs) i [] ≡ get_or xs (i - 3) []
behind_three a b c xs zero h = absurd (omega (arith, h))
behind_three a b c xs (suc zero) h = absurd (omega (arith, h))
behind_three a b c xs (suc (suc zero)) h = absurd (omega (arith, h))
behind_three a b c xs (suc (suc (suc i))) h = ap (λ j. get_or xs j []) (omega arith)

pub row_behind_three : (a b c : List ℕ) (rows : List (List ℤ)) (i : ℕ) → 3 ≤ i → i < length (a ∷ b ∷ c ∷ map row_line rows) → get_or (a ∷ b ∷ c ∷ map row_line rows) i [] ≡ row_line (get_or rows (i - 3) [])
row_behind_three a b c rows i h l = behind_three a b c (map row_line rows) i h ∙ get_or-map row_line rows (i - 3) [] [] (omega (arith, h, l, length-map rows row_line))

pub row_behind_four : (a b c d : List ℕ) (rows : List (List ℤ)) (i : ℕ) → 4 ≤ i → i < length (a ∷ b ∷ c ∷ d ∷ map row_line rows) → get_or (a ∷ b ∷ c ∷ d ∷ map row_line rows) i [] ≡ row_line (get_or rows (i - 4) [])
row_behind_four a b c d rows zero h l = absurd (omega (arith, h))
row_behind_four a b c d rows (suc i) h l = row_behind_three b c d rows i (omega (arith, h)) (omega (arith, l)) ∙ ap (λ j. row_line (get_or rows j [])) (omega (arith, h))

-- ---- the caps are as many as the columns
pub caps_length : (T : ToolSystem) → IsToolSystem T → length T.equations.caps ≡ width T.equations
caps_length T h = h.cap_count
