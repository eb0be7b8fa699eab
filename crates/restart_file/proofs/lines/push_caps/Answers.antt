-- A cap more is put, with a space behind it where it is not the last.
use Rattle.std.proofs.Common.{ℕ, ap, arith, ◌∙◌, ◌≡◌, length}
use Rattle.std.specs.Global.{Vec}
use Rattle.restart_file.proofs.Spacing.{cap_and_space, cap_alone, caps_end, caps_length}
use Rattle.restart_file.proofs.lines.push_caps.Goals as goal
use Rattle.restart_file.proofs.lines.push_caps.Goals.{then-j-width+in_ok-push, else-j-width}

pub loop-j-preserved : goal.loop-j-preserved
loop-j-preserved c =
    let k : length c.args.system.now.equations.caps ≡ length c.args.system.now.equations.signs = caps_length c.args.system.now c.keeps.ensures in
    elim c.if-j-width.branch [
      | then-j-width+in_ok-push w ↦
          cap_and_space c.args.system.now.equations.caps c.loop-j.j c.cap.result c.loop-j.line.items c.push_cap.new.line.items c.if-j-width.line.items _ (omega (arith, k, c.loop-j-test.true, c.width-width.ensures.width)) c.cap.ensures c.in_ok-push_cap.ensures c.loop-j.invariant (omega (arith, k, w.if-j-width.true, c.width-width.ensures.width)) (ap (λ (v : Vec ℕ). v.items) w.line-is ∙ w.in_ok-push.ensures.items)
      | else-j-width w ↦
          cap_alone c.args.system.now.equations.caps c.loop-j.j c.cap.result c.loop-j.line.items c.push_cap.new.line.items c.if-j-width.line.items _ (omega (arith, k, c.loop-j-test.true, c.width-width.ensures.width)) c.cap.ensures c.in_ok-push_cap.ensures c.loop-j.invariant (omega (arith, k, w.if-j-width.false, c.width-width.ensures.width)) (ap (λ (v : Vec ℕ). v.items) w.line-is)
    ]

pub returns : goal.returns
returns c =
    let k : length c.args.system.now.equations.caps ≡ length c.args.system.now.equations.signs = caps_length c.args.system.now c.keeps.ensures in
    caps_end c.args.system.now.equations.caps c.loop-j.j c.loop-j.line.items c.push-2.new.self.items c.args.line.now.items _ (omega (arith, k, c.loop-j-test.false, c.width-width.ensures.width)) c.loop-j.invariant c.in_ok-push-2.ensures.items
