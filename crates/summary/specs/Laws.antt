-- A table of 512 rows does what any keeper may do.
use Rattle.std.proofs.Common.{inl, inr}
use Rattle.std.proofs.lemmas.Bool.{cases_lt}
use Rattle.summary.specs.Kept.{Kept, Operation, emptying, offering, lengthening, Does, Tables, total}

pub tables_does : (f g : Kept) (o : Operation) → Tables f o g → Does f o g
tables_does f g emptying h = h
tables_does f g (offering n r) h = record {
  others = h.others;
  here = λ l. elim (cases_lt (total 32 f) 512) [
    | inl few ↦ inr (h.kept l few)
    | inr full ↦ inl (h.lost l full)
  ];
  beyond = h.beyond;
}
tables_does f g (lengthening n i) h = h
