use Rattle.std.proofs.Common.{◌≡◌, ℕ, ◌+◌, ◌-◌, ◌<◌, length, take, ap, ◌∙◌, arith, rules}
use Rattle.std.proofs.lemmas.List.{take_more}
use Rattle.std.proofs.lemmas.Bool.Decides.{nat_tests}
use Rattle.stack.proofs.Stack.pop.Goals as goal

pub returns : goal.returns
returns g c =
    let cells = c.args.self.now.cells.now in
    let len = c.args.self.now.len in
    let h : len - 1 < length cells = omega arith in
    let n : len ≡ len - 1 + 1 = omega arith in
    record {
      used = ap (λ (k : ℕ). take k cells) n ∙ take_more cells (len - 1) _ h;
      some = search (rules, nat_tests);
      places = search rules;
      size = search rules;
    }
