-- The laws of records, put together. Assumes nothing.
use Rattle.std.proofs.Common.{◌≡◌, ℕ, ◌≤◌, Some, refl, subst}
use Rattle.record.specs.Frames.{AllBytes}
use Rattle.record.specs.Records.{Record, spelled, WellFormed}
use Rattle.record.specs.Laws.{RecordLaws}
use Rattle.refusal.proofs.Doing.{some_same}
use Rattle.record.proofs.Spelling.{reads, reads_one}
use Rattle.record.proofs.Reading.{one_read, read_place}

pub records_stand : (w : ℕ) → 1 ≤ w → w ≤ 32 → RecordLaws w
records_stand w least most = record {
  back = reads w least most;
  single = λ i r wf. reads_one w least most i Some r r wf refl;
  one_spelling = λ i bs r e.
      let a = one_read w i Some bs r e in
      subst (λ (z : Record). WellFormed w z × (AllBytes bs → bs ≡ spelled z)) (some_same a.1) (a.2, a.3);
  place = read_place w;
}
