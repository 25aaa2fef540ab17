-- Steps of the key schedule and of the rounds, and the words of a key and of a block. Assumes nothing.
use mathlib.Core.Path.{◌≡◌, refl, sym, ap, ◌∙◌}
use mathlib.Core.List.{List, [], ◌∷◌, ◌++◌}
use Prim.Native.Nat.{ℕ, ◌+◌, ◌^◌, ◌<◌}
use native.Mathlib.Numerals.{add-one}
use lib.ListN.{get_or}
use Rattle.cipher.specs.Bytes.{little, number}
use Rattle.cipher.proofs.Littles.{number_little}
use Rattle.speck.specs.Speck.{round, key_step, key_schedule, rounds, key_words, block_words, block_of, speck128}

pub schedule_none : (key : List ℕ) → key_schedule key 0 ≡ key
unfolding key_schedule
schedule_none key = refl

pub schedule_more : (key ws : List ℕ) (i : ℕ) → key_schedule key i ≡ ws → key_schedule key (i + 1) ≡ key_step i ws
unfolding key_schedule
schedule_more key ws i e = ap (key_schedule key) (add-one i) ∙ ap (key_step i) e

pub rounds_none : (key : List ℕ) (p : ℕ × ℕ) → rounds key p 0 ≡ p
unfolding rounds
rounds_none key p = refl

pub rounds_more : (key ws : List ℕ) (p q : ℕ × ℕ) (i : ℕ) → key_schedule key i ≡ ws → q ≡ rounds key p i → round (get_or ws 0 0) q ≡ rounds key p (i + 1)
unfolding rounds
rounds_more key ws p q i e f =
    ap (round (get_or ws 0 0)) f
    ∙ ap (λ (l : List ℕ). round (get_or l 0 0) (rounds key p i)) (sym e)
    ∙ sym (ap (rounds key p) (add-one i))

-- a key of two words
pub key_two : (a b : ℕ) → a < 2 ^ 64 → b < 2 ^ 64 → key_words 2 (little 8 a ++ little 8 b) ≡ a ∷ b ∷ []
unfolding key_words little
key_two a b p q =
    ap (λ (x : ℕ). x ∷ number (little 8 b) ∷ []) (number_little 8 a p) ∙ ap (λ (x : ℕ). a ∷ x ∷ []) (number_little 8 b q)

block_two : (a b : ℕ) → a < 2 ^ 64 → b < 2 ^ 64 → block_words (little 8 a ++ little 8 b) ≡ (b, a)
unfolding block_words little
block_two a b p q =
    ap (λ (x : ℕ). (x, number (little 8 a))) (number_little 8 b q) ∙ ap (λ (x : ℕ). (b, x)) (number_little 8 a p)

-- the rounds over the words are the cipher over the bytes, for a key of m words
pub enciphers : (m n : ℕ) (key ws : List ℕ) (a b : ℕ) (q : ℕ × ℕ) → key_words m key ≡ ws → a < 2 ^ 64 → b < 2 ^ 64
    → q ≡ rounds ws (b, a) n → block_of q ≡ speck128 m n key (little 8 a ++ little 8 b)
enciphers m n key ws a b q e f g h =
    ap block_of (h ∙ ap (λ (us : List ℕ). rounds us (b, a) n) (sym e) ∙ ap (λ (p : ℕ × ℕ). rounds (key_words m key) p n) (sym (block_two a b f g)))
