-- The line that is put on standard error.
use Rattle.std.proofs.Common.{◌≡◌, [], List, ℕ, Option, refl, sym, subst}
use Rattle.outside.specs.Pieces.{MayPut}
use Rattle.tool_words.specs.declared.jobs.WordEnd.{WordEnd}
use Rattle.tool_words.specs.declared.jobs.WordEnd.TheVariants as words
use Rattle.stand_tool.specs.declared.ends.TopEnd.{TopEnd}
use Rattle.stand_tool.specs.declared.ends.TopEnd.TheVariants.{Done}
use Rattle.stand_tool.specs.Ends.{IsDoneEnd}
use Rattle.stand_tool.specs.Messages.{Speaks, message_of}
use Rattle.stand_tool.specs.Inside.Ends.{end_of_words}

pub silent : (project : List ℕ) (end : TopEnd) (old : Option (List ℕ)) → IsDoneEnd end → Speaks project end old old
silent project (Done s p) old is = refl
silent project end old is = absurd is

pub spoken : (project : List ℕ) (end : TopEnd) (old new : Option (List ℕ)) → (IsDoneEnd end → ⊥) → MayPut (message_of project end) old new → Speaks project end old new
spoken project (Done s p) old new not may = absurd (not tt)
spoken project end old new not may = may

-- words that are refused have a line without a project
pub refused_words : (e : WordEnd) (end : TopEnd) (project : List ℕ) (old new : Option (List ℕ)) → end ≡ end_of_words e → Speaks [] end old new → Speaks project end old new
refused_words words.Usage end project old new is h =
    subst (λ (x : TopEnd). Speaks [] x old new → Speaks project x old new) (sym is) (λ k. k) h
refused_words words.Memory end project old new is h =
    subst (λ (x : TopEnd). Speaks [] x old new → Speaks project x old new) (sym is) (λ k. k) h
