use Rattle.std.proofs.Common.{◌≡◌, ◌∙◌, ◌++◌, [], ◌∷◌, append_assoc, rules, subst, sym}
use Rattle.vl_config.specs.Names.{AreNamesOf}
use Rattle.vl_config.specs.Rows.{port_of_row}
use Rattle.vl_config.proofs.Ports.{apart_push, names_push}
use Rattle.vl_config.proofs.RowByRow.{one_more_row}
use Rattle.vl_config.specs.declared.rows.PortRow.{PortRow}
use Rattle.vl_config.proofs.rows.ports_of_rows.Goals as goal

-- what stands for a row past the end
abbrev no_row : PortRow
no_row = record { service = 0; address = 0; udp = 0; max = 0; limit = 0; name_len = 0; name = []; readers = 0 }

pub loop-row-preserved : goal.loop-row-preserved
loop-row-preserved c =
    let done = c.loop-row.ports.items in
    let port = c.in-Ok-port_of_row.port in
    let kept = c.loop-row.invariant in
    let pushed : c.push.new.self.items ≡ done ++ port ∷ [] = search rules in
    let lent : c.deref.result.now ≡ done = search rules in
    rw pushed (record {
      value = λ earlier known. sym (one_more_row (port_of_row earlier) done c.args.rows.now c.loop-row.row-index no_row port (search rules)
          (rw (← lent) (sym (c.in-Ok-port_of_row.ensures.value earlier (rw lent (kept.names earlier known)))))) ∙ kept.value earlier known;
      few = search rules;
      apart = apart_push done port kept.apart (search rules);
      distinct = λ earlier known apart. names_push earlier done port (kept.distinct earlier known apart)
          (sym (kept.names earlier known port.name) ∙ c.in-Ok-port_of_row.ensures.name);
      names = λ earlier known. subst (AreNamesOf c.add.new.self) (append_assoc earlier done (port ∷ [])) (c.in-Ok-add.ensures (earlier ++ done) (kept.names earlier known));
    })
