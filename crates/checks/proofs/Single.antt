-- Single records of one kind: what reading one gives. Assumes nothing.
use Rattle.std.proofs.Common.{◌≡◌, ℕ, Some, Ok, Option, ap, subst}
use Rattle.hash.specs.Collisions.{Bytes}
use Rattle.refusal.proofs.Doing.{some_same, none_some}
use Rattle.record.specs.Frames.{AllBytes}
use Rattle.record.specs.Records.{Head, Proof, Link, Record, leaf, head, proof, link, entry, collision, spelled, head_in, proof_in, link_in, read_one, WellFormed}
use Rattle.record.proofs.Reading.{one_read}

head_in_is : (r : Record) (h : Head) → head_in r ≡ Some h → r ≡ head h
head_in_is (leaf d) h e = absurd (none_some e)
head_in_is (head g) h e = ap head (some_same e)
head_in_is (proof p) h e = absurd (none_some e)
head_in_is (link l) h e = absurd (none_some e)
head_in_is (entry x) h e = absurd (none_some e)
head_in_is (collision x y) h e = absurd (none_some e)

proof_in_is : (r : Record) (p : Proof) → proof_in r ≡ Some p → r ≡ proof p
proof_in_is (leaf d) p e = absurd (none_some e)
proof_in_is (head g) p e = absurd (none_some e)
proof_in_is (proof q) p e = ap proof (some_same e)
proof_in_is (link l) p e = absurd (none_some e)
proof_in_is (entry x) p e = absurd (none_some e)
proof_in_is (collision x y) p e = absurd (none_some e)

link_in_is : (r : Record) (l : Link) → link_in r ≡ Some l → r ≡ link l
link_in_is (leaf d) l e = absurd (none_some e)
link_in_is (head g) l e = absurd (none_some e)
link_in_is (proof p) l e = absurd (none_some e)
link_in_is (link k) l e = ap link (some_same e)
link_in_is (entry x) l e = absurd (none_some e)
link_in_is (collision x y) l e = absurd (none_some e)

module _ (w i : ℕ) (bs : Bytes) where
  as_one : {X : Type 0} (wanted : Record → Option X) (x : X) (s : Record) → ((r : Record) → wanted r ≡ Some x → r ≡ s) → read_one w i wanted bs ≡ Ok x →
      WellFormed w s × (AllBytes bs → bs ≡ spelled s)
  as_one wanted x s f e =
      let a = one_read w i wanted bs x e in
      subst (λ (z : Record). WellFormed w z × (AllBytes bs → bs ≡ spelled z)) (f a.0 a.1) (a.2, a.3)

  pub head_read : (h : Head) → read_one w i head_in bs ≡ Ok h → WellFormed w (head h) × (AllBytes bs → bs ≡ spelled (head h))
  head_read h = as_one head_in h (head h) (λ r. head_in_is r h)

  pub proof_read : (p : Proof) → read_one w i proof_in bs ≡ Ok p → WellFormed w (proof p) × (AllBytes bs → bs ≡ spelled (proof p))
  proof_read p = as_one proof_in p (proof p) (λ r. proof_in_is r p)

  pub link_read : (l : Link) → read_one w i link_in bs ≡ Ok l → WellFormed w (link l) × (AllBytes bs → bs ≡ spelled (link l))
  link_read l = as_one link_in l (link l) (λ r. link_in_is r l)
