-- A file that is too short or too long has no digest; else its last line decides.
use Rattle.std.proofs.Common.{arith, inl, inr, ap, refl, sym, ◌∙◌, ◌≡◌, ◌-◌, ◌++◌, ◌∷◌, [], drop, List, ℕ}
use Rattle.std.specs.Prelude.{codes}
use Rattle.hex.specs.Hex.{encode_lower}
use Rattle.restart_file.specs.Inside.Windows.{IsTextLeft, TellsText}
use Rattle.restart_file.proofs.Remainders.{tells_same}
use Rattle.restart_file.proofs.Seals.{equal_seals, not_sealed, sealed_equal}
use Rattle.restart_file.proofs.sealing.is_sealed.Goals as goal

pub returns-then-size-lt-LAST-clause-sealed : goal.returns-then-size-lt-LAST-clause-sealed
returns-then-size-lt-LAST-clause-sealed g c = λ text t e. (λ q. cc, λ s. absurd (not_sealed text (inl (omega (arith, e, c.if-size-lt-LAST.true))) s))

pub returns-then-size-ge-TOO_LONG-clause-sealed : goal.returns-then-size-ge-TOO_LONG-clause-sealed
returns-then-size-ge-TOO_LONG-clause-sealed g c = λ text t e. (λ q. cc, λ s. absurd (not_sealed text (inr (omega (arith, e, c.if-size-ge-TOO_LONG.true))) s))

pub returns-clause-sealed : goal.returns-clause-sealed
returns-clause-sealed g c = λ text t e.
    let begun : IsTextLeft text c.in_ok-window.window text = c.in_ok-window.ensures text e in
    let hashed = c.in_ok-digest.ensures.digest text t begun (omega (arith, e)) in
    let now : TellsText (g.F.Folder.held c.digest_of.new.folder) c.args.name.now text = tells_same (g.F.Folder.held c.args.folder.now) (g.F.Folder.held c.digest_of.new.folder) c.args.name.now text c.digest_of.ensures.same t in
    let tail = c.in_ok-next_bytes.ensures.bytes text (drop (c.args.size - 72) text) now hashed.1 in
    let wanted : c.push_digest.new.line.items ≡ codes "digest " ++ encode_lower c.in_ok-digest.digest ++ 10 ∷ [] =
    c.in_ok-push_digest.ensures ∙ ap (λ (front : List ℕ). front ++ (codes "digest " ++ encode_lower c.in_ok-digest.digest ++ 10 ∷ [])) c.new-wanted.ensures.items
    in (
      λ q.
          equal_seals text c.args.size (c.args.size - 72) c.in_ok-digest.digest c.next_bytes.new.bytes.items c.push_digest.new.line.items e refl (omega (arith, c.if-size-lt-LAST.false)) (omega (arith, c.if-size-ge-TOO_LONG.false)) hashed.0 tail wanted
          (sym c.deref.ensures.value ∙ c.is_same.ensures.0 q ∙ c.deref-2.ensures.value),
      λ s.
          c.is_same.ensures.1
          (c.deref.ensures.value
          ∙ sealed_equal text c.args.size (c.args.size - 72) c.in_ok-digest.digest c.next_bytes.new.bytes.items c.push_digest.new.line.items e refl (omega (arith, c.if-size-lt-LAST.false)) (omega (arith, c.if-size-ge-TOO_LONG.false)) hashed.0 tail wanted s
          ∙ sym c.deref-2.ensures.value),
    )
