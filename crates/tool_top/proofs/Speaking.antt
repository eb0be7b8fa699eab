-- The line that is put on standard error.
use Rattle.std.proofs.Common.{◌≡◌, ◌≤◌, refl, [], List, ℕ, length, Option, Result, Ok, Err, OnOk, OnErr, ap, sym, subst, ◌∙◌, arith}
use Rattle.std.proofs.lemmas.List.{take_all}
use Rattle.std.specs.Io.KnownBytes.{append_known}
use Rattle.outside.specs.Pieces.{MayPut}
use Rattle.outside.specs.declared.ends.PutEnd.{PutEnd}
use Rattle.lift_core.specs.declared.Tool.{Tool}
use Rattle.tool_words.specs.declared.jobs.WordEnd.{WordEnd}
use Rattle.tool_words.specs.declared.jobs.WordEnd.TheVariants.{Usage as NoForm, Memory as NoMemory}
use Rattle.tool_top.specs.declared.ends.End.{End}
use Rattle.tool_top.specs.declared.ends.End.TheVariants.{Done}
use Rattle.tool_top.specs.Messages.{Speaks, IsDoneEnd, message_of}
use Rattle.tool_top.specs.Inside.Ends.{end_of_words}

-- a text that was put whole or in part
pub may_put : (r : Result (Unit {0}) PutEnd) (text : List ℕ) (old new : Option (List ℕ)) → OnOk r (new ≡ append_known old text) → OnErr r (MayPut text old new) → MayPut text old new
may_put (Ok u) text old new done refused =
    (length text, done ∙ ap (append_known old) (sym (take_all (length text) text (let h : length text ≤ length text = omega arith in h))))
may_put (Err e) text old new done refused = refused

pub silent : (tool : Tool) (project : List ℕ) (end : End) (old : Option (List ℕ)) → IsDoneEnd end → Speaks tool project end old old
silent tool project (Done s p n) old is = refl
silent tool project end old is = absurd is

pub spoken : (tool : Tool) (project : List ℕ) (end : End) (old new : Option (List ℕ)) → (IsDoneEnd end → ⊥) → MayPut (message_of tool project end) old new → Speaks tool project end old new
spoken tool project (Done s p n) old new not may = absurd (not tt)
spoken tool project end old new not may = may

-- words that are refused have a line without a project
pub refused_words : (tool : Tool) (e : WordEnd) (end : End) (project : List ℕ) (old new : Option (List ℕ)) → end ≡ end_of_words e → Speaks tool [] end old new → Speaks tool project end old new
refused_words tool NoForm end project old new is h =
    subst (λ x. Speaks tool [] x old new → Speaks tool project x old new) (sym is) (λ k. k) h
refused_words tool NoMemory end project old new is h =
    subst (λ x. Speaks tool [] x old new → Speaks tool project x old new) (sym is) (λ k. k) h
