mod FreshBenches
