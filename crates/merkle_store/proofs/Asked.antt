-- A side that asks by the digests of its rows: what holds for whatever rows these are the digests of holds of it.
use Rattle.std.proofs.Common.{ℕ, List, subst}
use Rattle.key_order.specs.Text.{Text}
use Rattle.merkle_digest.specs.SipDigests.{text_digest}
use Rattle.merkle_replica.specs.Contents.{Side, side}
use Rattle.merkle_wire.specs.ItsRows.{Digests, ForRowsOf, digests_of}
use Rattle.merkle_wire.specs.Questions.{AsksForRoot}
use Rattle.merkle_wire.specs.declared.question.Question.{Question}
use Rattle.store_file.specs.declared.register.Register.{Register}
use Rattle.merkle_store.specs.Sessions.{AsksByRows, EntryContents, entry_laws}

module _ (own : Digests Text (List ℕ)) (contents : EntryContents) (by : AsksByRows own contents) where
  pub of_side : (P : Side Text Register (List ℕ) → Type 0) → ForRowsOf entry_laws own P → P (side contents)
  of_side P holds = subst P by.settings (holds contents.rows by.digests)

  -- it asks under the settings of its tree
  pub asks_for_root : (question : Question Text) → AsksForRoot text_digest 16 own question → AsksForRoot text_digest 16 (digests_of contents.tree) question
  asks_for_root question asks =
      let P : Side Text Register (List ℕ) → Type 0 = λ s. AsksForRoot text_digest 16 (record { hasher = s.hasher; base = s.base; format = s.format; map = own.map }) question in
      subst P by.settings asks
