use mathlib.Core.Path.{◌≡◌, sym, ap, ◌∙◌}
use mathlib.Core.List.{List, [], ◌∷◌, ◌++◌}
use Prim.Native.Nat.{ℕ}
use native.Mathlib.Omega.{arith}
use borrow.Author.Rules.{rules}
use Rattle.cipher.specs.Bytes.{little}
use Rattle.speck.specs.Speck.{rounds}
use Rattle.speck.proofs.Steps.{schedule_none, schedule_more, rounds_none, rounds_more, key_two, enciphers}
use Rattle.speck.proofs.encrypt_words.Goals as goal

pub loop-i-init : goal.loop-i-init
loop-i-init c = (schedule_none _, sym (rounds_none _ _))

pub loop-i-preserved : goal.loop-i-preserved
loop-i-preserved c =
    let key : List ℕ = c.args.k ∷ c.args.l ∷ [] in
    let s = schedule_more key _ c.loop-i.i c.loop-i.invariant.0 in
    (cc, c.round-p.ensures ∙ rounds_more key _ _ _ c.loop-i.i c.loop-i.invariant.0 c.loop-i.invariant.1)

pub returns : goal.returns
returns c =
    let a = c.args in
    let key : List ℕ = a.k ∷ a.l ∷ [] in
    let e : c.loop-i.i ≡ 32 = omega arith in
    enciphers 2 32 (little 8 a.k ++ little 8 a.l) key a.y a.x c.loop-i.p (key_two a.k a.l (search rules) (search rules)) (search rules) (search rules)
    (c.loop-i.invariant.1 ∙ ap (rounds key (a.x, a.y)) e)
