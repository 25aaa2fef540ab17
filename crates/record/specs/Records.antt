-- The six records: how each is spelled in bytes, and how one is read. Assumes nothing.
use Rattle.std.specs.Prelude.{◌≡◌, ℕ, ◌+◌, ◌-◌, ◌*◌, ◌/◌, ◌%◌, ◌≤◌, Bool, true, false, cond, ◌&&◌, leb, List, ◌++◌, length, take, drop, Some, None, Ok, Option, ◌==◌, nat_eq, nat_le, nat_lt}
use Rattle.std.specs.List.{flat_map}
use Rattle.cipher.specs.Bytes.{little, number}
use Rattle.hash.specs.Hash.{cut}
use Rattle.hash.specs.Collisions.{Bytes, Input}
use Rattle.tree.specs.Digests.{Digests}
use Rattle.tree.specs.Tree.{shape_of, turns}
use Rattle.tree.specs.Spans.{largest, link_spans}
use Rattle.tree.specs.Entries.{longest_entry}
use Rattle.refusal.specs.Refusals.{Answer, site, must, given, ◌>>=◌, ◌>>◌}
use Rattle.refusal.specs.declared.Refusal.TheVariants.{CutShort, UnknownKind, ImpossibleLength, ImpossibleNumbers, UnwantedKind, BytesAfter}
use Rattle.record.specs.Frames.{Frame, frame_of, framed, unframed}

-- digests one after the other
abbrev pub flat : List Bytes → Bytes
flat = flat_map (λ d. d)

-- the size of a log and the root over its first leaves
pub record Head : Type 0 where
  pub size : ℕ
  pub root : Bytes

-- that a leaf stands at an index among so many, by the digests beside its way to the root
pub record Proof : Type 0 where
  pub index : ℕ
  pub size : ℕ
  pub path : List Bytes

-- that a log of one size grew to another, by the digests of its parts
pub record Link : Type 0 where
  pub old : ℕ
  pub new : ℕ
  pub digests : List Bytes

-- the six records
pub data Record : Type 0 where
  leaf : Bytes → Record
  head : Head → Record
  proof : Proof → Record
  link : Link → Record
  entry : Bytes → Record
  collision : Input → Input → Record

-- the kind and the payload of a record, in which a number has four bytes
abbrev pub frame_for : Record → Frame
frame_for (leaf d) = frame_of 1 d
frame_for (head h) = frame_of 2 (little 4 h.size ++ h.root)
frame_for (proof p) = frame_of 3 (little 4 p.index ++ (little 4 p.size ++ flat p.path))
frame_for (link l) = frame_of 4 (little 4 l.old ++ (little 4 l.new ++ flat l.digests))
frame_for (entry e) = frame_of 5 e
frame_for (collision x y) = frame_of 6 (x.0 ++ (x.1 ++ (y.0 ++ y.1)))

-- the bytes of a record
abbrev pub spelled : Record → Bytes
spelled r = framed (frame_for r)

module _ (w : ℕ) where
  -- as many digests as a payload has after its two numbers
  abbrev pub digests_of : Bytes → List Bytes
  digests_of p = cut w ((length p - 8) / w) (drop 8 p)

  -- the payload of a head: its size and its root
  abbrev pub as_head : Bytes → Record
  as_head p = head (record { size = number (take 4 p); root = drop 4 p })

  -- the payload of a proof: its index, its size and its path
  abbrev pub as_proof : Bytes → Record
  as_proof p = proof (record { index = number (take 4 p); size = number (take 4 (drop 4 p)); path = digests_of p })

  -- the payload of a link: its sizes and its digests
  abbrev pub as_link : Bytes → Record
  as_link p = link (record { old = number (take 4 p); new = number (take 4 (drop 4 p)); digests = digests_of p })

  -- the payload of a collision: a chaining value and a block, twice
  abbrev pub as_collision : Bytes → Record
  as_collision p = collision (take w p, take 16 (drop w p)) (take w (drop (w + 16) p), drop (w + w + 16) p)

  -- whether a payload of n bytes can be two numbers and whole digests, no more than most
  abbrev pub rows : ℕ → ℕ → Bool
  rows most n = nat_le 8 n && ((n - 8) % w == 0 && nat_le ((n - 8) / w) most)

  -- the six kinds by their numbers: which lengths of a payload are possible, and what it says
  abbrev pub kinds : ℕ → Option ((ℕ → Bool) × (Bytes → Record))
  kinds k =
      cond (k == 1) (Some ((λ n. nat_eq n w), leaf))
      (cond (k == 2) (Some ((λ n. nat_eq n (4 + w)), as_head))
      (cond (k == 3) (Some (rows 20, as_proof))
      (cond (k == 4) (Some (rows 21, as_link))
      (cond (k == 5) (Some ((λ n. leb n longest_entry), entry))
      (cond (k == 6) (Some ((λ n. nat_eq n (2 * (w + 16))), as_collision)) None)))))

-- whether the numbers of a record are possible: sizes from 1 to the largest, old not above new, an index below its size, as many digests as these fix
abbrev pub numbers_fit : Record → Bool
numbers_fit (leaf d) = true
numbers_fit (head h) = nat_le 1 h.size && nat_le h.size largest
numbers_fit (proof p) =
    elim (nat_lt p.index p.size && nat_le p.size largest) [ false ↦ false | true ↦ nat_eq (length p.path) (length (turns (shape_of p.size) p.index)) ]
numbers_fit (link l) =
    elim (nat_le 1 l.old && (nat_le l.old l.new && nat_le l.new largest)) [ false ↦ false | true ↦ nat_eq (length l.digests) (length (link_spans l.old l.new)) ]
numbers_fit (entry e) = true
numbers_fit (collision x y) = true

-- the record at a place of input i, and the place after it
abbrev pub read_at : ℕ → ℕ → Bytes → ℕ → Answer (Record × ℕ)
read_at w i bs p = do
  q ← given (unframed (drop p bs)) (CutShort (site i p))
  k ← given (kinds w q.0.kind) (UnknownKind (site i p))
  must (k.0 (length q.0.payload)) (ImpossibleLength (site i p))
  must (numbers_fit (k.1 q.0.payload)) (ImpossibleNumbers (site i p))
  Ok (k.1 q.0.payload, p + 4 + length q.0.payload)

-- the record as a head, if it is one
abbrev pub head_in : Record → Option Head
head_in (leaf d) = None
head_in (head h) = Some h
head_in (proof p) = None
head_in (link l) = None
head_in (entry e) = None
head_in (collision x y) = None

-- the record as a proof, if it is one
abbrev pub proof_in : Record → Option Proof
proof_in (leaf d) = None
proof_in (head h) = None
proof_in (proof p) = Some p
proof_in (link l) = None
proof_in (entry e) = None
proof_in (collision x y) = None

-- the record as a link, if it is one
abbrev pub link_in : Record → Option Link
link_in (leaf d) = None
link_in (head h) = None
link_in (proof p) = None
link_in (link l) = Some l
link_in (entry e) = None
link_in (collision x y) = None

-- the record as an entry, if it is one
abbrev pub entry_in : Record → Option Bytes
entry_in (leaf d) = None
entry_in (head h) = None
entry_in (proof p) = None
entry_in (link l) = None
entry_in (entry e) = Some e
entry_in (collision x y) = None

-- the record as a collision, if it is one
abbrev pub collision_in : Record → Option (Input × Input)
collision_in (leaf d) = None
collision_in (head h) = None
collision_in (proof p) = None
collision_in (link l) = None
collision_in (entry e) = None
collision_in (collision x y) = Some (x, y)

-- input i as a single record of the kind wanted
abbrev pub read_one : {X : Type 0} → ℕ → ℕ → (Record → Option X) → Bytes → Answer X
read_one w i wanted bs = do
  q ← read_at w i bs 0
  x ← given (wanted q.0) (UnwantedKind (site i 0))
  must (q.1 == length bs) (BytesAfter (site i 0))
  Ok x

-- the parts of a record have their widths
abbrev pub Parts : ℕ → Record → Type 0
Parts w (leaf d) = length d ≡ w
Parts w (head h) = length h.root ≡ w
Parts w (proof p) = Digests w p.path
Parts w (link l) = Digests w l.digests
Parts w (entry e) = length e ≤ longest_entry
Parts w (collision x y) = (length x.0 ≡ w) × (length x.1 ≡ 16) × (length y.0 ≡ w) × (length y.1 ≡ 16)

-- a record that can be spelled: its parts have their widths, and its numbers are possible
abbrev pub WellFormed : ℕ → Record → Type 0
WellFormed w r = Parts w r × (numbers_fit r ≡ true)
