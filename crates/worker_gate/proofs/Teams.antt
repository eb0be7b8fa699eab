-- What the threads of a team leave together.
use Rattle.std.proofs.Common.{◌≡◌, zero, suc, ◌≤◌, List, [], ◌∷◌, length, All, refl, arith}
use Rattle.std.proofs.lemmas.List.Elements.{All-nil, All-cons, All-head, All-tail}
use Rattle.norm_board.specs.declared.board.Board.{Board}
use Rattle.lift_core.specs.Times.{total_of}
use Rattle.worker_gate.specs.declared.record.Worker.{Worker}
use Rattle.worker_gate.specs.Inside.Team.{IsEmpty, IsFine, HasEnded, AllEnded, worker_weight, missed_of}

module _ (b : Board) where
  rest : (x : Worker) (xs : List Worker) (y : Worker) (ys : List Worker) → AllEnded b (x ∷ xs) (y ∷ ys) → AllEnded b xs ys
  rest x xs y ys e i d h = e (suc i) d (omega arith)

  first : (x : Worker) (xs : List Worker) (y : Worker) (ys : List Worker) → AllEnded b (x ∷ xs) (y ∷ ys) → HasEnded b x y
  first x xs y ys e = e zero x (omega arith)

  pub ended_weight : (xs ys : List Worker) → length ys ≡ length xs → AllEnded b xs ys → total_of worker_weight ys ≡ total_of worker_weight xs
  ended_weight [] [] l e = refl
  ended_weight [] (y ∷ ys) l e = absurd (omega arith)
  ended_weight (x ∷ xs) [] l e = absurd (omega arith)
  ended_weight (x ∷ xs) (y ∷ ys) l e = let r = ended_weight xs ys (omega arith) (rest x xs y ys e) in let w = (first x xs y ys e).weight in omega arith

  pub ended_missed : (xs ys : List Worker) → length ys ≡ length xs → AllEnded b xs ys → total_of missed_of xs ≤ total_of missed_of ys
  ended_missed [] [] l e = omega arith
  ended_missed [] (y ∷ ys) l e = absurd (omega arith)
  ended_missed (x ∷ xs) [] l e = absurd (omega arith)
  ended_missed (x ∷ xs) (y ∷ ys) l e = let r = ended_missed xs ys (omega arith) (rest x xs y ys e) in let w = (first x xs y ys e).missed in omega arith

  pub ended_empty : (xs ys : List Worker) → length ys ≡ length xs → AllEnded b xs ys → All IsFine ys → total_of missed_of ys ≡ total_of missed_of xs → All IsEmpty ys
  ended_empty [] [] l e f m = All-nil IsEmpty
  ended_empty [] (y ∷ ys) l e f m = absurd (omega arith)
  ended_empty (x ∷ xs) [] l e f m = absurd (omega arith)
  ended_empty (x ∷ xs) (y ∷ ys) l e f m =
      let h = first x xs y ys e in
      let t = rest x xs y ys e in
      let r = ended_missed xs ys (omega arith) t in
      let w = h.missed in
      All-cons IsEmpty y ys (h.empty (All-head IsFine y ys f) (omega arith))
      (ended_empty xs ys (omega arith) t (All-tail IsFine y ys f) (omega arith))
