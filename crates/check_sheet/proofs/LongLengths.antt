-- Sheets of any size up to the largest whose first or second record has one of paper 4's lengths, refused: `long_length_is_refused` is not vacuous.
-- Assumes nothing.
use mathlib.Core.Path.{◌≡◌, refl, ap, ◌∙◌}
use Prim.Native.Nat.{ℕ, ◌+◌, ◌^◌, ◌≤◌, ◌<◌}
use native.Mathlib.Nat.{mod-eq_of_lt}
use native.Mathlib.Omega.{arith}
use mathlib.Core.List.{List, [], ◌∷◌, ◌++◌}
use lib.ListN.{length, length-append}
use lib.Ieee.{of_bits, of_fields, odd}
use Rattle.floats.specs.Order.{is_finite}
use Rattle.fields.specs.Field.{uint_at, f64_at, uint_bytes, uint, record_bytes}
use Rattle.fields.proofs.Writing.{length-uint_bytes}
use Rattle.fields.proofs.ReadBack.{uint_at_appended}
use Rattle.walk.specs.Offsets.{max_sheet_bytes, length_at, offsets_from, offsets}
use Rattle.walk.specs.Every.{All}
use Rattle.walk.specs.Narrow.{long_lengths}
use Rattle.walk.proofs.Offsets.{offsets_within, offsets_more, offsets_end}
use Rattle.check_record.specs.Tests.{both, every}
use Rattle.check_record.specs.Shape.{length_ok, shape_ok}
use Rattle.check_record.specs.Values.{values_ok}
use Rattle.check_record.specs.Floats.{finite_at, floats_from, floats_count, floats_ok}
use Rattle.check_record.specs.Record.{Right}
use Rattle.check_record.specs.declared.RecordError.TheVariants as no
use Rattle.std.specs.Prelude.{Err}
use Rattle.check_sheet.specs.declared.SheetError.TheVariants.{Record}
use Rattle.check_sheet.specs.Check.{check_sheet}
use Rattle.check_sheet.proofs.Narrow.{long_length_is_refused}

-- ---- Behind some bytes a length above that of any sheet, and any bytes behind it

module _ (n : ℕ) (long : max_sheet_bytes < n) (fits : n < 2 ^ 32) (front rest : List ℕ) (room : length front + 4 + length rest ≤ max_sheet_bytes) where
  abbrev sheet : List ℕ
  sheet = front ++ (uint_bytes 4 n ++ rest)

  size : length sheet ≡ length front + 4 + length rest
  size = omega (arith, length-append (uint_bytes 4 n) rest, length-uint_bytes 4 n, length-append front (uint_bytes 4 n ++ rest))

  length_there : length_at sheet (length front) ≡ n
  length_there = uint_at_appended 4 n front rest ∙ mod-eq_of_lt fits

  -- a walk that comes to it ends there
  last : offsets_from sheet (length front) ≡ length front ∷ []
  last =
      offsets_more sheet (length front) (omega (arith, size)) (omega (arith, length_there))
      ∙ ap (λ (xs : List ℕ). length front ∷ xs) (offsets_end sheet _ (omega (arith, size, length_there)))

  refused_there : (before : List ℕ) → offsets sheet ≡ before ++ length front ∷ [] → All (Right sheet) before → check_sheet sheet ≡ Err (Record no.Frame (length front))
  refused_there before e right =
      long_length_is_refused sheet before [] (length front) (omega (arith, size)) e right (omega (arith, size, length_there))

-- ---- The first record, and the one behind a text

text : List ℕ
text = record_bytes (uint 4 26 ∷ uint 2 2 ∷ uint 2 1 ∷ uint 2 0 ∷ uint 8 0 ∷ uint 8 0 ∷ [])

module _ (n : ℕ) (long : max_sheet_bytes < n) (fits : n < 2 ^ 32) (rest : List ℕ) where
  first_refused : 4 + length rest ≤ max_sheet_bytes → check_sheet (uint_bytes 4 n ++ rest) ≡ Err (Record no.Frame 0)
  first_refused room =
      let room_there : 0 + 4 + length rest ≤ max_sheet_bytes = omega arith in
      refused_there n long fits [] rest room_there [] (offsets_within _ (omega (arith, size n long fits [] rest room_there)) ∙ last n long fits [] rest room_there) tt

  module _ (room : 30 + length rest ≤ max_sheet_bytes) where
    abbrev behind_text : List ℕ
    behind_text = text ++ (uint_bytes 4 n ++ rest)

    text_length : length text ≡ 26
    unfolding text record_bytes uint_bytes
    text_length = refl

    room_there : length text + 4 + length rest ≤ max_sheet_bytes
    room_there = omega (arith, text_length)

    first_length : length_at behind_text 0 ≡ 26
    unfolding text record_bytes uint_bytes uint_at
    first_length = refl

    first_right : Right behind_text 0
    unfolding text record_bytes uint_bytes uint_at f64_at is_finite of_bits of_fields odd both every length_ok shape_ok values_ok finite_at floats_from floats_count floats_ok
    first_right =
        record {
          whole = record { head = omega (arith, first_length); within = omega (arith, first_length, text_length, size n long fits text rest room_there) };
          shape = refl;
          values = refl;
          floats = refl;
        }

    both_records : offsets behind_text ≡ 0 ∷ length text ∷ []
    both_records =
        let bytes = size n long fits text rest room_there in
        let next : 0 + length_at behind_text 0 ≡ length text = omega (arith, first_length, text_length) in
        offsets_within behind_text (omega (arith, bytes, room_there))
        ∙ offsets_more behind_text 0 (omega (arith, bytes)) (omega (arith, first_length))
        ∙ ap (λ (m : ℕ). 0 ∷ offsets_from behind_text m) next
        ∙ ap (λ (xs : List ℕ). 0 ∷ xs) (last n long fits text rest room_there)

    second_refused : check_sheet behind_text ≡ Err (Record no.Frame 26)
    second_refused =
        refused_there n long fits text rest room_there (0 ∷ []) both_records (first_right, tt) ∙ ap (λ (n : ℕ). Err (Record no.Frame n)) text_length

-- ---- Paper 4's four lengths

abbrev BothRefused : List ℕ → ℕ → Type 0
BothRefused rest n = (check_sheet (uint_bytes 4 n ++ rest) ≡ Err (Record no.Frame 0)) × (check_sheet (text ++ (uint_bytes 4 n ++ rest)) ≡ Err (Record no.Frame 26))

four_refused : (rest : List ℕ) → 30 + length rest ≤ max_sheet_bytes → All (BothRefused rest) long_lengths
four_refused rest room = (
  refused 0xffffffff (omega arith) (omega arith),
  (
    refused 0xfffffffe (omega arith) (omega arith),
    (
      refused 0x80000000 (omega arith) (omega arith),
      (
        refused 0x01000001 (omega arith) (omega arith),
        tt,
      ),
    ),
  ),
)
  where
    refused : (n : ℕ) → max_sheet_bytes < n → n < 2 ^ 32 → BothRefused rest n
    refused n long fits = (first_refused n long fits rest (omega arith), second_refused n long fits rest room)
