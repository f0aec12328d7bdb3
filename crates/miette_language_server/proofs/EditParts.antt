-- The parts of the edits that are proposed are theirs, not rounded.
use Rattle.std.proofs.Common.{◌≡◌, ℕ, ◌+◌, ◌-◌, ◌≤◌, true, cond, ◌&&◌, leb, List, [], ◌∷◌, length}
use Rattle.std.proofs.Common.{Some, None, sym, ap, ◌∙◌, arith}
use Rattle.std.specs.List.{AllByRecursion}
use Rattle.std.specs.Option.{option_map_or}
use Rattle.std.proofs.lemmas.Bool.{le-leb, leb-true}
use Rattle.miette_lines.proofs.Cases.{by_cases}
use Rattle.miette_protocol.specs.rules.Reading.{Span, is_in_bounds}
use Rattle.miette_fixes.specs.rules.Edits.{FixModel, Replacement}
use Rattle.miette_lint.specs.rules.FindingWithFixes.{FindingWithFixes, coded_findings}
use Rattle.miette_lint.specs.rules.Combined.{combined_proposal}
use Rattle.miette_lint.proofs.EditPlaces.{CodedEnds, FixEnds, HasEnds, findings_end, proposals_end}
use Rattle.miette_positions.specs.declared.position.PositionEncoding.{PositionEncoding}
use Rattle.miette_positions.specs.declared.position.PositionEncoding.TheVariants.{Utf16}
use Rattle.miette_positions.specs.declared.position.Region.{Region}
use Rattle.miette_positions.specs.declared.position.Stop.{Stop}
use Rattle.miette_positions.specs.rules.Regions.{clamped_end, offset_of, region, region_of, span_between, span_of}
use Rattle.miette_positions.specs.rules.Regions.{stop_after}
use Rattle.miette_positions.specs.rules.Regions.{stop_before, stretch}
use Rattle.miette_positions.specs.rules.Stops.{stops_of}
use Rattle.miette_positions.proofs.Rising.{after_back, before_back, offset_back}
use Rattle.miette_language_server.specs.rules.Actions.{HasItsPart, HasItsParts}
use Rattle.miette_language_server.specs.rules.Values.{empty_region}
use Rattle.miette_language_server.proofs.BlankStops.{IsAmong, beside_stop}

-- a place where a stop is, is that of the stop before it and of the stop after it
record IsOwn (e : PositionEncoding) (source : List ℕ) (at : ℕ) : Type 0 where
  before : offset_of e source (stop_before e source at).position ≡ Some at
  after : offset_of e source (stop_after e source at).position ≡ Some at

own_stop : (e : PositionEncoding) (source : List ℕ) (at : ℕ) → IsAmong (stops_of e source) at → IsOwn e source at
own_stop e source at h =
    let k : ℕ = h.0 in
    let t : Stop = h.1 in
    let first : stop_before e source at ≡ t = ap (stop_before e source) (sym h.3) ∙ before_back e source k t h.2 in
    let last : stop_after e source at ≡ t = ap (stop_after e source) (sym h.3) ∙ after_back e source k t h.2 in
    let back : offset_of e source t.position ≡ Some at = offset_back e source k t h.2 ∙ ap Some h.3 in
    record {
      before = ap (λ (s : Stop). offset_of e source s.position) first ∙ back;
      after = ap (λ (s : Stop). offset_of e source s.position) last ∙ back;
    }

accepted : (source : List ℕ) (span : Span) → span.offset + span.len ≤ length source → is_in_bounds source span ≡ true
accepted source span le =
    ap (λ b. b && leb (span.offset + span.len) (length source + 1)) (le-leb span.offset (length source)
    (omega (arith, le)))
    ∙ le-leb (span.offset + span.len) (length source + 1) (omega (arith, le))

end_back : (e : PositionEncoding) (source : List ℕ) (span : Span) → IsOwn e source span.offset
    → IsOwn e source (span.offset + span.len) → span.offset + span.len ≤ length source
    → offset_of e source (stretch e source span).end.position ≡ Some (span.offset + span.len)
end_back e source span first last le =
    let to : ℕ = span.offset + span.len in
    let cut : clamped_end source span ≡ to = omega (arith, le) in
    let before : Stop = stop_before e source span.offset in
    let after : Stop = stop_after e source (clamped_end source span) in
    by_cases {C = offset_of e source (stretch e source span).end.position ≡ Some to}
    (leb (clamped_end source span) span.offset)
    (λ t. let low : clamped_end source span ≤ span.offset = leb-true (clamped_end source span) span.offset t in
    let same : span.offset ≡ to = omega (arith, low, cut) in
    ap (λ b. offset_of e source (cond b before after).position) t ∙ first.before ∙ ap Some same)
    (λ f. ap (λ b. offset_of e source (cond b before after).position) f
    ∙ ap (λ n. offset_of e source (stop_after e source n).position) cut ∙ last.after)

span_back : (e : PositionEncoding) (source : List ℕ) (span : Span) → IsOwn e source span.offset
    → IsOwn e source (span.offset + span.len) → span.offset + span.len ≤ length source
    → span_of e source (option_map_or (λ (r : Region). r) (region_of e source span) empty_region) ≡ Some span
span_back e source span first last le =
    let to : ℕ = span.offset + span.len in
    let r : Region = region (stretch e source span) in
    let chosen : option_map_or (λ (r : Region). r) (region_of e source span) empty_region ≡ r =
    ap (λ b. option_map_or (λ (r : Region). r) (cond b (Some r) None) empty_region) (accepted source span le) in
    let until : offset_of e source r.end ≡ Some to = end_back e source span first last le in
    let size : to - span.offset ≡ span.len = omega arith in
    ap (span_of e source) chosen
    ∙ ap (λ o. span_between o (offset_of e source r.end)) first.before
    ∙ ap (span_between (Some span.offset)) until
    ∙ ap (λ b. cond b (Some (record { offset = span.offset; len = to - span.offset })) None)
    (le-leb span.offset to (omega arith))
    ∙ ap (λ n. Some (record { offset = span.offset; len = n })) size

one_back : (source : List ℕ) (edit : Replacement) → HasEnds source edit → HasItsPart source edit
one_back source edit ends =
    let to : ℕ = edit.span.offset + edit.span.len in
    span_back Utf16 source edit.span
    (own_stop Utf16 source edit.span.offset (beside_stop Utf16 source edit.span.offset ends.from))
    (own_stop Utf16 source to (beside_stop Utf16 source to ends.to)) ends.within

weaker : {X : Type 0} (P Q : X → Type 0) → ((x : X) → P x → Q x) → (xs : List X) → AllByRecursion P xs
    → AllByRecursion Q xs
weaker P Q f [] h = tt
weaker P Q f (x ∷ xs) h = (f x h.0, weaker P Q f xs h.1)

-- of the fix of all findings
pub joint_parts : (source : List ℕ) (width : ℕ)
    → AllByRecursion (HasItsPart source) (combined_proposal source width).edits
joint_parts source width =
    weaker (HasEnds source) (HasItsPart source) (one_back source) (combined_proposal source width).edits
    (proposals_end source)

-- of the fixes of each finding
pub finding_parts : (source : List ℕ) (width : ℕ)
    → AllByRecursion (λ (it : FindingWithFixes). AllByRecursion (HasItsParts source) it.fixes)
    (coded_findings source width)
finding_parts source width =
    let fixes : (fix : FixModel) → FixEnds source fix → HasItsParts source fix =
    λ fix. weaker (HasEnds source) (HasItsPart source) (one_back source) fix.edits in
    weaker (CodedEnds source) (λ (it : FindingWithFixes). AllByRecursion (HasItsParts source) it.fixes)
    (λ it. weaker (FixEnds source) (HasItsParts source) fixes it.fixes) (coded_findings source width)
    (findings_end source width)
