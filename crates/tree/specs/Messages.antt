-- The messages that are hashed on a way from a root down. Assumes nothing.
use Rattle.std.specs.Prelude.{ℕ, List, [], ◌∷◌, reverse}
use Rattle.hash.specs.Hash.{Hashing}
use Rattle.hash.specs.Collisions.{Bytes}
use Rattle.tree.specs.Tree.{Turn, low, high, turns, shape_of, climb}
use Rattle.tree.specs.Links.{link_turns, kept, base, above}
use Rattle.tree.specs.Digests.{leaf_message, node_message, leaf_digest, node_digest}

-- the node messages from the root down to the digest d, by the digests beside the way with the topmost first, and then what stands below
abbrev pub messages : Hashing → List Turn → Bytes → List Bytes → List Bytes → List Bytes
messages f [] d ps below = below
messages f (t ∷ ts) d [] below = below
messages f (low ∷ ts) d (p ∷ ps) below = node_message (climb (node_digest f) ts d ps) p ∷ messages f ts d ps below
messages f (high ∷ ts) d (p ∷ ps) below = node_message p (climb (node_digest f) ts d ps) ∷ messages f ts d ps below

-- the messages of a proof: its node messages from the root down, and the leaf's message
abbrev pub proof_messages : Hashing → ℕ → ℕ → Bytes → List Bytes → List Bytes
proof_messages f i n e ps = messages f (turns (shape_of n) i) (leaf_digest f e) (reverse ps) (leaf_message e ∷ [])

-- the messages of a link: the node messages of its new root from the root down, in which the old root counts as part of the link
abbrev pub link_messages : Hashing → ℕ → ℕ → Bytes → List Bytes → List Bytes
link_messages f m n old ps =
    let ts = link_turns (shape_of n) m in messages f ts (base (kept ts) old ps) (reverse (above (kept ts) ps)) []
