-- A restart file on its way: what is sent and hashed, and what a refusal leaves.
use Rattle.std.proofs.Common.{◌≡◌, ◌<◌, ◌≤◌, ◌+◌, ◌-◌, ℕ, suc, zero, List, [], ◌∷◌, ◌++◌, length, get_or, drop, refl, sym, ap, subst, ◌∙◌, append_assoc, append-nil, arith}
use Rattle.std.specs.Prelude.{Option, ℤ, map, codes, Result, Ok, Err, OnOk, OnErr}
use Rattle.std.specs.Option.{option_map}
use Rattle.std.specs.List.{concat}
use Rattle.std.proofs.Math.Seq.{drop-cons}
use Rattle.std.proofs.lemmas.List.{get_or-map, length-map, length-append, get_or-append_right}
use Rattle.sha2.specs.Sha256.{sha256}
use Rattle.sha2.specs.Hashers.{Holds256}
use Rattle.sha2.specs.declared.Sha256.{Sha256}
use Rattle.hex.specs.Hex.{encode_lower}
use Rattle.outside.specs.Files.{Files, begun, appended, MayAppend, written, MayWrite}
use Rattle.outside.specs.Inside.Writing.{IsPartWritten}
use Rattle.outside.proofs.Writing.{appended-held, part_more, part_whole, part_stands, part_refused}
use Rattle.mat_files.specs.Texts.{line_of}
use Rattle.restart_file.specs.Texts.{digest_line, sealed}
use Rattle.restart_file.specs.Inside.Sending.{IsSent}

module _ (name bytes : List ℕ) (before mid new : Option Files) (hasher after : Sha256) where
  -- what is sent is on its way to the whole text
  pub on_the_way : (rest : List ℕ) → IsSent name bytes rest before mid hasher → IsPartWritten name (sealed bytes) (rest ++ digest_line bytes) before mid
  on_the_way rest s = record { front = s.front; held = s.held; whole = sym (append_assoc s.front rest (digest_line bytes)) ∙ ap (λ b. b ++ digest_line bytes) s.whole }

  pub stopped : (rest : List ℕ) → IsSent name bytes rest before mid hasher → MayWrite name (sealed bytes) before mid
  stopped rest s = part_stands name (sealed bytes) (rest ++ digest_line bytes) before mid (on_the_way rest s)

  -- a piece that the folder and the hasher are lent
  module _ (piece rest lent : List ℕ) (same : lent ≡ piece) (sent : IsSent name bytes (piece ++ rest) before mid hasher) where
    pub piece_refused : MayAppend name lent mid new → MayWrite name (sealed bytes) before new
    piece_refused more =
        part_refused name (sealed bytes) piece (rest ++ digest_line bytes) before mid new
        (subst (λ r. IsPartWritten name (sealed bytes) r before mid) (append_assoc piece rest (digest_line bytes)) (on_the_way (piece ++ rest) sent))
        (subst (λ p. MayAppend name p mid new) same more)

    pub piece_sent : new ≡ option_map (appended name lent) mid → ((m : List ℕ) → Holds256 hasher m → Holds256 after (m ++ piece)) → IsSent name bytes rest before new after
    piece_sent more hashed = record {
      front = sent.front ++ piece;
      held = more ∙ ap (λ p. option_map (appended name p) mid) same ∙ ap (option_map (appended name piece)) sent.held ∙ appended-held before name sent.front piece;
      hashed = hashed sent.front sent.hashed;
      whole = append_assoc sent.front piece rest ∙ sent.whole;
    }

  -- ---- the last line
  module _ (digest line : List ℕ) (is : (m : List ℕ) → Holds256 hasher m → digest ≡ sha256 m) (line_is : line ≡ codes "digest " ++ encode_lower digest ++ 10 ∷ []) where
    digest_line_is : IsSent name bytes [] before mid hasher → line ≡ digest_line bytes
    digest_line_is s =
        line_is ∙ ap (λ d. codes "digest " ++ encode_lower d ++ 10 ∷ []) (is s.front s.hashed)
        ∙ ap (λ m. codes "digest " ++ encode_lower (sha256 m) ++ 10 ∷ []) (sym (append-nil s.front) ∙ s.whole)

    last_to_come : IsSent name bytes [] before mid hasher → IsPartWritten name (sealed bytes) (line ++ []) before mid
    last_to_come s = subst (λ l. IsPartWritten name (sealed bytes) l before mid) (sym (append-nil line ∙ digest_line_is s)) (on_the_way [] s)

    pub last_sent : IsSent name bytes [] before mid hasher → new ≡ option_map (appended name line) mid → new ≡ option_map (written name (sealed bytes)) before
    last_sent s more = part_whole name (sealed bytes) before new (part_more name (sealed bytes) line [] before mid new (last_to_come s) more)

    pub last_refused : IsSent name bytes [] before mid hasher → MayAppend name line mid new → MayWrite name (sealed bytes) before new
    last_refused s more = part_refused name (sealed bytes) line [] before mid new (last_to_come s) more

-- ---- what follows from an answer
pub on_ok : {T E : Type 0} {P Q : Type 0} (r : Result T E) → (P → Q) → OnOk r P → OnOk r Q
on_ok (Ok x) follows h = follows h
on_ok (Err e) follows h = tt

pub on_err : {T E : Type 0} {P Q : Type 0} (r : Result T E) → (P → Q) → OnErr r P → OnErr r Q
on_err (Ok x) follows h = tt
on_err (Err e) follows h = follows h

-- ---- line by line
pub nothing_sent : (name : List ℕ) (lines : List (List ℕ)) (before new : Option Files) (hasher : Sha256) → new ≡ option_map (begun name) before → Holds256 hasher [] → IsSent name (concat lines) ([] ++ concat (drop 0 lines)) before new hasher
nothing_sent name lines before new hasher begins none = record { front = []; held = begins; hashed = none; whole = refl }

module _ (lines : List (List ℕ)) (i : ℕ) (old new : List ℕ) (inside : i < length lines) (more : new ≡ old ++ get_or lines i []) where
  pub line_more : old ++ concat (drop i lines) ≡ new ++ concat (drop (i + 1) lines)
  line_more =
      ap (λ l. old ++ concat l) (drop-cons lines i [] inside)
      ∙ sym (append_assoc old (get_or lines i []) (concat (drop (suc i) lines)))
      ∙ ap (λ t. t ++ concat (drop (suc i) lines)) (sym more)
      ∙ ap (λ k. new ++ concat (drop k lines)) next
    where
      next : suc i ≡ i + 1
      next = omega arith

pub no_line_left : (lines : List (List ℕ)) (i : ℕ) → length lines ≤ i → concat (drop i lines) ≡ []
no_line_left [] zero h = refl
no_line_left [] (suc i) h = refl
no_line_left (l ∷ lines) zero h = absurd (omega (arith, h))
no_line_left (l ∷ lines) (suc i) h = no_line_left lines i (omega (arith, h))

module _ (name : List ℕ) (lines : List (List ℕ)) (i : ℕ) (old new : List ℕ) (before mid : Option Files) (hasher : Sha256) where
  pub next_line : i < length lines → new ≡ old ++ get_or lines i [] → IsSent name (concat lines) (old ++ concat (drop i lines)) before mid hasher → IsSent name (concat lines) (new ++ concat (drop (i + 1) lines)) before mid hasher
  next_line inside more s = subst (λ r. IsSent name (concat lines) r before mid hasher) (line_more lines i old new inside more) s

  -- the piece was sent, and a new one is empty
  pub emptied : new ≡ [] → IsSent name (concat lines) (concat (drop i lines)) before mid hasher → IsSent name (concat lines) (new ++ concat (drop i lines)) before mid hasher
  emptied none s = subst (λ p. IsSent name (concat lines) (p ++ concat (drop i lines)) before mid hasher) (sym none) s

-- the same, of what is equal
pub placed : (name bytes rest piece other : List ℕ) (before mid held : Option Files) (hasher after : Sha256) → other ≡ piece → held ≡ mid → after ≡ hasher → IsSent name bytes (piece ++ rest) before mid hasher → IsSent name bytes (other ++ rest) before held after
placed name bytes rest piece other before mid held hasher after p q r s =
    subst (λ h. IsSent name bytes (other ++ rest) before held h) (sym r)
    (subst (λ m. IsSent name bytes (other ++ rest) before m hasher) (sym q) (subst (λ t. IsSent name bytes (t ++ rest) before mid hasher) (sym p) s))

pub no_more_lines : (name : List ℕ) (lines : List (List ℕ)) (i : ℕ) (piece : List ℕ) (before mid : Option Files) (hasher : Sha256) → length lines ≤ i → IsSent name (concat lines) (piece ++ concat (drop i lines)) before mid hasher → IsSent name (concat lines) (piece ++ []) before mid hasher
no_more_lines name lines i piece before mid hasher h s = subst (λ r. IsSent name (concat lines) (piece ++ r) before mid hasher) (no_line_left lines i h) s

-- ---- the places of lines
behind_two : (a b : List ℕ) (xs : List (List ℕ)) (i : ℕ) → 2 ≤ i → get_or (a ∷ b ∷ xs) i [] ≡ get_or xs (i - 2) []
behind_two a b xs zero h = absurd (omega (arith, h))
behind_two a b xs (suc zero) h = absurd (omega (arith, h))
behind_two a b xs (suc (suc i)) h = ap (λ j. get_or xs j []) (omega arith)

pub behind_rows : (rows waiting : List (List ℤ)) (a b : List ℕ) (i n : ℕ) → n ≡ length rows → n ≤ i → 2 ≤ i - n → i < length (map line_of rows ++ (a ∷ b ∷ map line_of waiting))
    → get_or (map line_of rows ++ (a ∷ b ∷ map line_of waiting)) i [] ≡ line_of (get_or waiting (i - n - 2) [])
behind_rows rows waiting a b i n is from two below =
    get_or-append_right (map line_of rows) (a ∷ b ∷ map line_of waiting) n i [] (length-map rows line_of ∙ sym is) from
    ∙ behind_two a b (map line_of waiting) (i - n) two
    ∙ get_or-map line_of waiting (i - n - 2) [] [] (omega (arith, below, from, two, is, length-map rows line_of, length-map waiting line_of, length-append (map line_of rows) (a ∷ b ∷ map line_of waiting)))
