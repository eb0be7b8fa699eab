-- The texts so far are the words so far.
use Rattle.std.proofs.Common.{◌++◌, ◌∷◌, [], ◌∙◌, ap, map, sym, subst, take, IsUtf8, List, ℕ}
use Rattle.std.specs.Borrow.{Bor}
use Rattle.std.specs.List.{AllByRecursion}
use Rattle.std.proofs.lemmas.List.{map-append}
use Rattle.tool_words.proofs.Texts.{all_more, take_next}
use Rattle.tool_words.proofs.reading.texts.Goals as goal

pub loop-i-preserved : goal.loop-i-preserved
loop-i-preserved c =
    let next = take_next c.args.words.now c.loop-i.i c.word.result.now c.word.ensures in (
      ap (map (λ (w : Bor (List ℕ)). w.now)) c.in_ok-push.ensures.items
          ∙ map-append (λ (w : Bor (List ℕ)). w.now) c.loop-i.texts.items (c.word.result ∷ [])
          ∙ ap (λ (l : List (List ℕ)). l ++ c.word.result.now ∷ []) c.loop-i.invariant.0
          ∙ sym next,
      subst (AllByRecursion IsUtf8) (sym next) (all_more (take c.loop-i.i c.args.words.now) c.word.result.now c.loop-i.invariant.1 c.word.utf8),
    )
