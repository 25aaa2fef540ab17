-- What is read is well formed and has one spelling. Assumes nothing.
use Rattle.std.proofs.Common.{◌≡◌, ℕ, ◌+◌, ◌≤◌, eqb, [], ◌++◌, length, drop, IfSome, Some, Ok, Option, sym, refl, ap, ◌∙◌, subst, append-nil, arith, length-append}
use Rattle.std.proofs.lemmas.List.{nil_from_length, drop_at, drop-drop}
use Rattle.std.proofs.lemmas.Bool.{eqb-true}
use Rattle.hash.specs.Collisions.{Bytes}
use Rattle.refusal.specs.Refusals.{site, given}
use Rattle.refusal.specs.declared.Refusal.TheVariants.{CutShort, UnknownKind, ImpossibleLength, ImpossibleNumbers, UnwantedKind, BytesAfter}
use Rattle.record.specs.Frames.{Frame, framed, unframed, AllBytes}
use Rattle.record.specs.Records.{Record, frame_for, spelled, kinds, numbers_fit, read_at, read_one, WellFormed}
use Rattle.refusal.proofs.Doing.{bind_ok, must_ok, given_ok, ok_same, through, bound}
use Rattle.record.proofs.Bytewise.{all_left}
use Rattle.record.proofs.Framing.{Short, length_framed, payload_bytes, one_spelling}
use Rattle.record.proofs.Payloads.{sensible}
use Rattle.record.proofs.Spelling.{reads}

module _ (w : ℕ) where
  -- what stands behind a record that was read
  pub record ReadAs (bs : Bytes) (p : ℕ) (r : Record) (q : ℕ) : Type 0 where
    pub frame : Frame
    pub rest : Bytes
    pub framed_so : unframed (drop p bs) ≡ Some (frame, rest)
    pub well : WellFormed w r
    pub next : q ≡ p + 4 + length frame.payload
    pub spelling : AllBytes frame.payload → frame_for r ≡ frame

  pub read_as : (i : ℕ) (bs : Bytes) (p : ℕ) (r : Record) (q : ℕ) → read_at w i bs p ≡ Ok (r, q) → ReadAs bs p r q
  read_as i bs p r q e =
      let a = bind_ok (given (unframed (drop p bs)) (CutShort (site i p))) _ (r, q) e in
      let fr = a.0.0 in
      let b = bind_ok (given (kinds w fr.kind) (UnknownKind (site i p))) _ (r, q) a.2 in
      let k = b.0 in
      let c = must_ok (k.0 (length fr.payload)) (ImpossibleLength (site i p)) _ (r, q) b.2 in
      let d = must_ok (numbers_fit (k.1 fr.payload)) (ImpossibleNumbers (site i p)) _ (r, q) c.1 in
      let o : k.1 fr.payload ≡ r = ap (λ (z : Record × ℕ). z.0) (ok_same d.1) in
      let s = sensible w fr.kind k (given_ok (kinds w fr.kind) (UnknownKind (site i p)) k b.1) fr.payload c.0 in
      record {
        frame = fr;
        rest = a.0.1;
        framed_so = given_ok (unframed (drop p bs)) (CutShort (site i p)) a.0 a.1;
        well = subst (λ (z : Record). WellFormed w z) o (s.0, d.0);
        next = sym (ap (λ (z : Record × ℕ). z.1) (ok_same d.1));
        spelling = λ all. sym (ap frame_for o) ∙ s.1 all;
      }

  -- a single record that was read is well formed, and its bytes are the one spelling of it
  pub one_read : {X : Type 0} (i : ℕ) (wanted : Record → Option X) (bs : Bytes) (x : X) → read_one w i wanted bs ≡ Ok x →
      (r : Record) × (wanted r ≡ Some x) × WellFormed w r × (AllBytes bs → bs ≡ spelled r)
  one_read i wanted bs x e =
      let a = bind_ok (read_at w i bs 0) _ x e in
      let r = a.0.0 in
      let b = bind_ok (given (wanted r) (UnwantedKind (site i 0))) _ x a.2 in
      let c = must_ok (eqb a.0.1 (length bs)) (BytesAfter (site i 0)) _ x b.2 in
      let k = read_as i bs 0 r a.0.1 a.1 in (
        r,
        given_ok (wanted r) (UnwantedKind (site i 0)) b.0 b.1 ∙ ap Some (ok_same c.1),
        k.well,
        λ all. spelled_so r k (eqb-true a.0.1 (length bs) c.0) all (one_spelling bs all),
      )
    where
      spelled_so : (r : Record) {q : ℕ} (k : ReadAs bs 0 r q) → q ≡ length bs → AllBytes bs →
          IfSome (unframed bs) (λ z. (bs ≡ framed z.0 ++ z.1) × Short z.0) → bs ≡ spelled r
      spelled_so r {q} k n all s =
          let t : (bs ≡ framed k.frame ++ k.rest) × Short k.frame =
          subst (λ (o : Option (Frame × Bytes)). IfSome o (λ z. (bs ≡ framed z.0 ++ z.1) × Short z.0)) k.framed_so s in
          let none : k.rest ≡ [] = nil_from_length k.rest (omega (arith, n, k.next, ap length t.0, length-append (framed k.frame) k.rest, length_framed k.frame)) in
          let whole : bs ≡ framed k.frame = t.0 ∙ ap (λ (z : Bytes). framed k.frame ++ z) none ∙ append-nil (framed k.frame) in
          whole ∙ sym (ap framed (k.spelling (payload_bytes k.frame (subst AllBytes whole all))))

  -- the number of the input does not matter where a record is read
  any_at : (i j : ℕ) (bs : Bytes) (p : ℕ) (x : Record × ℕ) → read_at w i bs p ≡ Ok x → read_at w j bs p ≡ Ok x
  any_at i j bs p x e =
      let a = bind_ok (given (unframed (drop p bs)) (CutShort (site i p))) _ x e in
      let b = bind_ok (given (kinds w a.0.0.kind) (UnknownKind (site i p))) _ x a.2 in
      let c = must_ok (b.0.0 (length a.0.0.payload)) (ImpossibleLength (site i p)) _ x b.2 in
      let d = must_ok (numbers_fit (b.0.1 a.0.0.payload)) (ImpossibleNumbers (site i p)) _ x c.1 in
      bound _ (ap (λ o. given o (CutShort (site j p))) (given_ok (unframed (drop p bs)) (CutShort (site i p)) a.0 a.1))
      ∙ bound _ (ap (λ o. given o (UnknownKind (site j p))) (given_ok (kinds w a.0.0.kind) (UnknownKind (site i p)) b.0 b.1))
      ∙ through (ImpossibleLength (site j p)) _ c.0 ∙ through (ImpossibleNumbers (site j p)) _ d.0 ∙ d.1

  pub any_input : {X : Type 0} (i j : ℕ) (wanted : Record → Option X) (bs : Bytes) (x : X) → read_one w i wanted bs ≡ Ok x → read_one w j wanted bs ≡ Ok x
  any_input i j wanted bs x e =
      let a = bind_ok (read_at w i bs 0) _ x e in
      let b = bind_ok (given (wanted a.0.0) (UnwantedKind (site i 0))) _ x a.2 in
      let c = must_ok (eqb a.0.1 (length bs)) (BytesAfter (site i 0)) _ x b.2 in
      bound _ (any_at i j bs 0 a.0 a.1) ∙ bound _ (ap (λ o. given o (UnwantedKind (site j 0))) (given_ok (wanted a.0.0) (UnwantedKind (site i 0)) b.0 b.1))
      ∙ through (BytesAfter (site j 0)) _ c.0 ∙ c.1

  -- a spelled record is read as nothing else
  pub reads_only : {X : Type 0} (least : 1 ≤ w) (most : w ≤ 32) (i : ℕ) (wanted : Record → Option X) (r : Record) (x : X) → WellFormed w r →
      read_one w i wanted (spelled r) ≡ Ok x → wanted r ≡ Some x
  reads_only least most i wanted r x wf e =
      let a = bind_ok (read_at w i (spelled r) 0) _ x e in
      let b = bind_ok (given (wanted a.0.0) (UnwantedKind (site i 0))) _ x a.2 in
      let c = must_ok (eqb a.0.1 (length (spelled r))) (BytesAfter (site i 0)) _ x b.2 in
      let same : read_at w i (spelled r) 0 ≡ Ok (r, 0 + length (spelled r)) = ap (λ (z : Bytes). read_at w i z 0) (sym (append-nil (spelled r))) ∙ reads w least most i [] r [] wf in
      let o : r ≡ a.0.0 = ap (λ (z : Record × ℕ). z.0) (ok_same (sym same ∙ a.1)) in
      ap wanted o ∙ given_ok (wanted a.0.0) (UnwantedKind (site i 0)) b.0 b.1 ∙ ap Some (ok_same c.1)

  -- a record read at a place: the bytes from there on are its one spelling and what follows it
  pub read_place : (i : ℕ) (bs : Bytes) (p : ℕ) (r : Record) (q : ℕ) → read_at w i bs p ≡ Ok (r, q) → WellFormed w r × (AllBytes (drop p bs) → drop p bs ≡ spelled r ++ drop q bs)
  read_place i bs p r q e =
      let k = read_as i bs p r q e in (
        k.well,
        λ all.
            let t : (drop p bs ≡ framed k.frame ++ k.rest) × Short k.frame =
            subst (λ (o : Option (Frame × Bytes)). IfSome o (λ z. (drop p bs ≡ framed z.0 ++ z.1) × Short z.0)) k.framed_so (one_spelling (drop p bs) all) in
            let parts : AllBytes (framed k.frame) = all_left (framed k.frame) k.rest (subst AllBytes t.0 all) in
            let at : p + length (framed k.frame) ≡ q = omega (arith, k.next, length_framed k.frame) in
            let behind : k.rest ≡ drop q bs =
            sym (drop_at (framed k.frame) k.rest (length (framed k.frame)) refl) ∙ ap (drop (length (framed k.frame))) (sym t.0)
            ∙ drop-drop (length (framed k.frame)) p bs ∙ ap (λ n. drop n bs) at in
            t.0 ∙ (λ j. framed (sym (k.spelling (payload_bytes k.frame parts)) j) ++ behind j),
      )
