use Rattle.std.proofs.Common.{ℕ, ◌*◌, List, sym, ap, ◌∙◌}
use Rattle.cipher.specs.Bytes.{xors}
use Rattle.aes.specs.Columns.{state_of}
use Rattle.aes.specs.Fours.{sixteen_at, xors_four}
use Rattle.aes.proofs.columns.Columns.add.Goals as goal

pub returns : goal.returns
returns c =
    let s = c.args.self in
    xors_four s.a s.b s.c s.d _ _ _ _ c.load_word.result c.load_word-2.result c.load_word-3.result c.load_word-4.result
    c.load_word.ensures c.load_word-2.ensures c.load_word-3.ensures c.load_word-4.ensures
    ∙ ap (λ (l : List ℕ). xors (state_of s) l) (sym (sixteen_at c.args.keys.now (16 * c.args.j)))
