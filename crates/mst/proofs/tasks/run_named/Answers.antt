use Rattle.std.proofs.Common.{◌≡◌, ℕ, List, rules, refl, sym, subst, string_bytes}
use Rattle.store_file.specs.Logs.{IsClean, IsSteady, Leaves, trees_of}
use Rattle.store_rows.specs.InStep.{StandsInStep}
use Rattle.mst.specs.Naming.{IsNamed, IsNewlyNamed, names_first}
use Rattle.mst.proofs.Naming.{named, unnamed, carried, crashed}
use Rattle.mst.proofs.tasks.run_named.Goals.{then-writes_by_name+in_ok-name_store, else-writes_by_name}
use Rattle.mst.proofs.tasks.run_named.Goals as goal

pub returns-clause-carried : goal.returns-clause-carried
returns-clause-carried g c =
    let s = g.S.Store in
    let before = string_bytes c.args.note.now.writer in
    let mid = c.if-writes_by_name in
    let name = string_bytes mid.note.writer in
    let first : IsClean s mid.log → IsNamed (names_first c.args.command before) name (trees_of s c.args.log.now) (trees_of s mid.log) =
    elim mid.branch [
      | then-writes_by_name+in_ok-name_store w ↦ rw (w.log-is, w.note-is)
          (named s c.args.command c.args.log.now w.name_store.new.log _ before _ (search rules) (search rules) (λ some. (w.name_store.ensures.kept some).0) w.name_store.ensures.named)
      | else-writes_by_name w ↦ rw (w.log-is, w.note-is) (λ clean. unnamed s c.args.command c.args.log.now c.args.log.now _ before (search rules) refl)
    ] in
    carried s c.args.command c.args.input c.args.log.now mid.log c.run_open.new.log before name first _ c.run_open.ensures.steady c.run_open.ensures.carried

pub returns-clause-crash : goal.returns-clause-crash
returns-clause-crash g c =
    let s = g.S.Store in
    let before = string_bytes c.args.note.now.writer in
    let mid = c.if-writes_by_name in
    let name = string_bytes mid.note.writer in
    let first : IsClean s mid.log → IsNamed (names_first c.args.command before) name (trees_of s c.args.log.now) (trees_of s mid.log) =
    elim mid.branch [
      | then-writes_by_name+in_ok-name_store w ↦ rw (w.log-is, w.note-is)
          (named s c.args.command c.args.log.now w.name_store.new.log _ before _ (search rules) (search rules) (λ some. (w.name_store.ensures.kept some).0) w.name_store.ensures.named)
      | else-writes_by_name w ↦ rw (w.log-is, w.note-is) (λ clean. unnamed s c.args.command c.args.log.now c.args.log.now _ before (search rules) refl)
    ] in
    let steady : IsSteady s c.args.log.now mid.log = search rules in
    let left : Leaves s c.args.log.now mid.log IsNewlyNamed = search rules in
    crashed s c.args.command c.args.input c.args.log.now mid.log c.run_open.new.log before name first steady left c.run_open.ensures.crash

pub returns-clause-stands : goal.returns-clause-stands
returns-clause-stands g c stood =
    let s = g.S.Store in
    let mid = c.if-writes_by_name in
    let key = c.args.note.now.hash_key in
    let same : mid.note.hash_key ≡ key =
    elim mid.branch [
      | then-writes_by_name+in_ok-name_store w ↦ rw w.note-is w.name_store.ensures.hash_key
      | else-writes_by_name w ↦ rw w.note-is refl
    ] in
    let stands : StandsInStep s key mid.log =
    elim mid.branch [
      | then-writes_by_name+in_ok-name_store w ↦ rw w.log-is (w.name_store.ensures.stands stood)
      | else-writes_by_name w ↦ rw w.log-is stood
    ] in
    subst (λ (k : List ℕ). StandsInStep s k c.run_open.new.log) same (c.run_open.ensures.stands (subst (λ (k : List ℕ). StandsInStep s k mid.log) (sym same) stands))
