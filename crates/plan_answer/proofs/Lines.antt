-- A line of each kind of record, computed from the record as the rules write it.
-- Assumes nothing.
use mathlib.Core.Path.{◌≡◌, refl}
use Rattle.geometry.specs.Placement.{IDENTITY}
use Rattle.records.specs.Sources.{no_label}
use Rattle.plan_rules.specs.declared.Reason.TheVariants as reason
use Rattle.plan_rules.specs.Event.{batch, text, point, proxy, totals, encode, scene_plan}
use Rattle.plan_rules.specs.Samples.{spot, page}
use Rattle.plan_rules.proofs.Cases.Opened.{opened}
use Rattle.plan_text.specs.Ascii.{ascii}
use Rattle.plan_text.specs.Text.{line_of}
use Rattle.plan_text.proofs.Opened.{opened_text}

pub text_line_lem : line_of (encode (text 0 (spot 10 20))) ≡ ascii "text 0 4024000000000000 4034000000000000\n"
unfolding opened_text opened encode
text_line_lem = refl

pub totals_line_lem : line_of (encode (totals (scene_plan 80 1 0 1 1 2 3 4 5 6))) ≡ ascii "totals 1 1 2 3 4 5 6\n"
unfolding opened_text opened encode
totals_line_lem = refl

pub batch_line_lem : line_of (encode (batch 12 IDENTITY)) ≡ ascii "batch 12 3ff0000000000000 0000000000000000 0000000000000000 3ff0000000000000 0000000000000000 0000000000000000\n"
unfolding opened_text opened encode
batch_line_lem = refl

pub point_line_lem : line_of (encode (point 255 65535 (spot 10 20))) ≡ ascii "point 255 65535 4024000000000000 4034000000000000\n"
unfolding opened_text opened encode
point_line_lem = refl

pub proxy_line_lem : line_of (encode (proxy reason.CellLimit 4095 (page 10 20))) ≡ ascii "proxy 4095 0000000000000000 0000000000000000 4024000000000000 4034000000000000\n"
unfolding opened_text opened encode
proxy_line_lem = refl

-- "an absent label as `none`"
pub unlabelled_line : line_of (encode (proxy reason.DenseBatch no_label (page 10 20))) ≡ ascii "proxy none 0000000000000000 0000000000000000 4024000000000000 4034000000000000\n"
unfolding opened_text opened encode
unlabelled_line = refl
