use Rattle.std.proofs.Common.{◌≡◌, sym, subst, ◌∙◌}
use Rattle.key_order.specs.Map.{SameMap}
use Rattle.merkle_replica.specs.Contents.{tree_map}
use Rattle.merkle_replica.proofs.SideLaws.{laws_of}
use Rattle.examples.proofs.exchanging.exchange_by_trees.Goals as goal
use Rattle.merkle_wire.specs.ItsRows.{digests_of, side_of}

pub returns-in-Ok-take_by-clause-exchanged : goal.returns-in-Ok-take_by-clause-exchanged
returns-in-Ok-take_by-clause-exchanged g c = rw g.met.H.RowHasher.laws_are (λ sound own of.
    let laws = laws_of g.K.Ord.cmp g.K.KeyBytes.bytes_of g.H.Hasher-1.digest_of g.V.PartialEq.eq g.V.Join.join_of g.H.Hasher-2.digest_of in
    let rows = g.R.KeptRows.rows c.args.rows.now in
    let peer = side_of (digests_of c.args.peer.now) rows in
    let tree = c.answer_by.new.side in
    let settings = c.answer_by.ensures.settings tt in
    let (question, read, is) = (rw g.met.H.RowHasher.laws_are at (c.in-Ok.ensures.answered tt)) in
    let digests = (rw g.met.H.RowHasher.laws_are at c.requires.digests) in
    record {
      reply = c.in-Ok.reply.items;
      answer = record {
        question = question;
        tree = tree;
        reads = sym c.requires.asks ∙ read;
        settings = settings;
        of_peer = (
          rw (settings.0, settings.1) at c.every_tree_is_sound.ensures.sound.canonical,
          subst (λ m. SameMap g.K.Ord.cmp (λ d e. d ≡ e) m (tree_map laws peer)) (sym (c.answer_by.ensures.map tt)) digests,
        );
        answers = is;
      };
      takes = (rw (g.met.H.RowHasher.laws_are, c.deref.ensures.value) at (c.in-Ok-take_by.ensures.next sound)) own of;
    })
